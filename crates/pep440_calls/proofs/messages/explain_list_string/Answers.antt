use Rattle.std.proofs.Common.{◌∙◌, inr, string_bytes}
use Rattle.pep440_rs.specs.Lists.ListResults.{line_of, list_kind_of}
use Rattle.pep440_rs.specs.Lists.ListErrors.{list_rejection_of}
use Rattle.pep440_rs.specs.Lists.ListErrorTexts.{list_text_of}
use Rattle.pep440_calls.proofs.Once.{tells_list}
use Rattle.pep440_calls.proofs.messages.explain_list_string.Goals as goal

pub returns : goal.returns
returns c = inr (tells_list c.args.bytes.now c.in-Ok.text.now (string_bytes c.in_ok-to_string-in-Err.field-0) (list_rejection_of (list_kind_of c.in-Err.error))
    (list_text_of (list_kind_of c.in-Err.error) (line_of c.in-Err.error)) c.in-Ok.ensures.cases.0 c.in-Ok.ensures.cases.1
    (λ none. c.in_default-kind.not-OutOfMemory (c.kind.ensures ∙ c.in-Err.ensures.lifted none)) c.in-Err.ensures.refused c.in-Err.ensures.message c.in_ok-to_string-in-Err.ensures.ok)
