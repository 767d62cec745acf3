use Rattle.std.proofs.Common.{◌∙◌}
use Rattle.pep440_rs.specs.Lists.ListResults.{list_kind_of}
use Rattle.pep440_rs.specs.Lists.ListErrors.{list_rejection_of}
use Rattle.pep440_calls.proofs.Once.{no_list_text, refuses_list}
use Rattle.pep440_calls.proofs.read.read_list_string.Goals as goal

pub returns-in_default : goal.returns-in_default
returns-in_default c = no_list_text c.args.bytes.now c.in_default.ensures.cases.0

pub returns-in_default-kind : goal.returns-in_default-kind
returns-in_default-kind c = refuses_list c.args.bytes.now c.in-Ok.text.now (list_rejection_of (list_kind_of c.in-Err.error)) c.in-Ok.ensures.cases.0 c.in-Ok.ensures.cases.1
    (λ none. c.in_default-kind.not-OutOfMemory (c.kind.ensures ∙ c.in-Err.ensures.lifted none)) c.in-Err.ensures.refused
