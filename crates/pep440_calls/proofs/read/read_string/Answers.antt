use Rattle.std.proofs.Common.{◌∙◌, sym}
use Rattle.pep440_version.specs.Errors.{kind_of, rejection_of}
use Rattle.pep440_calls.proofs.Once.{no_text, refuses}
use Rattle.pep440_calls.proofs.read.read_string.Goals as goal

pub returns-in_default : goal.returns-in_default
returns-in_default c = no_text c.args.bytes.now c.in_default.ensures.cases.0

pub returns-else-is_out_of_memory : goal.returns-else-is_out_of_memory
returns-else-is_out_of_memory c = refuses c.args.bytes.now c.in-Ok.text.now (rejection_of (kind_of c.in-Err.error)) c.in-Ok.ensures.cases.0 c.in-Ok.ensures.cases.1
    (sym c.is_out_of_memory.ensures ∙ c.if-is_out_of_memory.false) c.in-Err.ensures.refused
