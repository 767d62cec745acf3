use Rattle.std.proofs.Common.{◌∙◌, sym}
use Rattle.pep440_version.specs.Errors.{pattern_kind_of, pattern_rejection_of}
use Rattle.pep440_calls.proofs.Once.{refuses_pattern}
use Rattle.pep440_calls.proofs.patterns.read_pattern.Goals as goal

pub returns-else-is_out_of_memory : goal.returns-else-is_out_of_memory
returns-else-is_out_of_memory c = refuses_pattern c.args.bytes.now c.in-Ok.text.now (pattern_rejection_of (pattern_kind_of c.in-Err.error)) c.in-Ok.ensures.cases.0
    c.in-Ok.ensures.cases.1 (sym c.is_out_of_memory.ensures ∙ c.if-is_out_of_memory.false) c.in-Err.ensures.refused
