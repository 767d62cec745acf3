use Rattle.std.proofs.Common.{◌∙◌, ℕ, List, subst}
use Rattle.pep440_rs.specs.Errors.{parse_kind_of, specifier_rejection_of}
use Rattle.pep440_rs.specs.Specifiers.SpecifierGrammar.{DerivesSpecifier}
use Rattle.pep440_calls.proofs.Once.{no_specifier_text, refuses_specifier}
use Rattle.pep440_calls.proofs.patterns.read_specifier.Goals as goal

pub returns-in_default : goal.returns-in_default
returns-in_default c = no_specifier_text c.args.bytes.now c.in_default.ensures.cases.0

pub returns-in-Ok-from_str : goal.returns-in-Ok-from_str
returns-in-Ok-from_str c = (
  c.in-Ok.ensures.cases.1,
  subst (λ (text : List ℕ). DerivesSpecifier text c.in-Ok-from_str.specifier) c.in-Ok.ensures.cases.0 c.in-Ok-from_str.ensures.found,
)

pub returns-in_default-kind : goal.returns-in_default-kind
returns-in_default-kind c = refuses_specifier c.args.bytes.now c.in-Ok.text.now (specifier_rejection_of (parse_kind_of c.in-Err.error)) c.in-Ok.ensures.cases.0 c.in-Ok.ensures.cases.1
    (λ none. c.in_default-kind.not-OutOfMemory (c.kind.ensures ∙ c.in-Err.ensures.lifted none)) c.in-Err.ensures.refused
