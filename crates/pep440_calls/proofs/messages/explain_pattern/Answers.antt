use Rattle.std.proofs.Common.{◌∙◌, inr, string_bytes, sym}
use Rattle.pep440_version.specs.Errors.{pattern_kind_of, pattern_rejection_of}
use Rattle.pep440_version.specs.ErrorTexts.{pattern_error_text}
use Rattle.pep440_calls.proofs.Once.{tells_pattern}
use Rattle.pep440_calls.proofs.messages.explain_pattern.Goals as goal

pub returns : goal.returns
returns c = inr (tells_pattern c.args.bytes.now c.in-Ok.text.now (string_bytes c.in_ok-to_string-in-Err.field-0) (pattern_rejection_of (pattern_kind_of c.in-Err.error))
    (pattern_error_text (pattern_rejection_of (pattern_kind_of c.in-Err.error))) c.in-Ok.ensures.cases.0 c.in-Ok.ensures.cases.1
    (sym c.is_out_of_memory.ensures ∙ c.if-is_out_of_memory.false) c.in-Err.ensures.refused c.in-Err.ensures.message c.in_ok-to_string-in-Err.ensures.ok)
