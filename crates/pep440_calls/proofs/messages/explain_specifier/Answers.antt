use Rattle.std.proofs.Common.{◌∙◌, ℕ, List, inl, inr, string_bytes, subst}
use Rattle.pep440_rs.specs.Errors.{parse_kind_of, specifier_rejection_of}
use Rattle.pep440_rs.specs.ErrorTexts.{specifier_error_text}
use Rattle.pep440_rs.specs.Specifiers.SpecifierGrammar.{DerivesSpecifier}
use Rattle.pep440_calls.proofs.Once.{tells_specifier}
use Rattle.pep440_calls.proofs.messages.explain_specifier.Goals as goal

pub returns-in-Ok-from_str : goal.returns-in-Ok-from_str
returns-in-Ok-from_str c = inl (
  c.in-Ok-from_str.field-0,
  (
    c.in-Ok.ensures.cases.1,
    subst (λ (text : List ℕ). DerivesSpecifier text c.in-Ok-from_str.field-0) c.in-Ok.ensures.cases.0 c.in-Ok-from_str.ensures.found,
  ),
  c.new.ensures.bytes,
)

pub returns : goal.returns
returns c = inr (tells_specifier c.args.bytes.now c.in-Ok.text.now (string_bytes c.in_ok-to_string-in-Err.field-0) (specifier_rejection_of (parse_kind_of c.in-Err.error))
    (specifier_error_text (specifier_rejection_of (parse_kind_of c.in-Err.error))) c.in-Ok.ensures.cases.0 c.in-Ok.ensures.cases.1
    (λ none. c.in_default-kind.not-OutOfMemory (c.kind.ensures ∙ c.in-Err.ensures.lifted none)) c.in-Err.ensures.refused c.in-Err.ensures.message c.in_ok-to_string-in-Err.ensures.ok)
