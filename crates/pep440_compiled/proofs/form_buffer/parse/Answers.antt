use Rattle.std.proofs.Common.{◌∙◌, inr, sym}
use Rattle.pep440_compiled.proofs.WrittenForm.{rejected}
use Rattle.pep440_compiled.proofs.form_buffer.parse.Goals as goal
use Rattle.pep440_version.specs.Errors.{error_rejection}

pub returns-else-is_out_of_memory-clause-rejected : goal.returns-else-is_out_of_memory-clause-rejected
returns-else-is_out_of_memory-clause-rejected c =
    let why = rejected c.args.text.now c.in-Ok.text.now (error_rejection c.in-Err.error) c.in-Ok.ensures.cases.0 (sym c.is_out_of_memory.ensures ∙ c.if-is_out_of_memory.false) c.in-Err.ensures.refused in
    inr (c.in-Ok.ensures.cases.1, why.0, why.1)
