-- What strings denote can be given beside its operator.
use Rattle.std.proofs.Common.{◌≡◌, ℕ, Bool, true, false, List, Result, Ok, Err, IfOk, sym, ap, subst}
use Rattle.std.specs.List.{All}
use Rattle.std.specs.Str.{encode_utf8_all}
use Rattle.pep440_rs.proofs.Agreement.Operands.{list_has_texts}
use Rattle.pep440_rs.proofs.Agreement.TextAgreement.{has_operand}
use Rattle.pep440_rs.proofs.Reread.Again.{built_is}
use Rattle.pep440_rs.specs.Build.{built, built_pattern}
use Rattle.pep440_rs.specs.Denoted.{IsDenotable, IsDenoted}
use Rattle.pep440_rs.specs.Lists.ListGrammar.{DerivesList}
use Rattle.pep440_rs.specs.Specifiers.SpecifierGrammar.{DerivesSpecifier, IsDenotedSpecifier}
use Rattle.pep440_rs.specs.Specifiers.{Spec}
use Rattle.pep440_rs.specs.declared.list.error.VersionSpecifiersParseError.{VersionSpecifiersParseError}
use Rattle.pep440_rs.specs.declared.specifier.operator.Operator.{Operator}
use Rattle.pep440_rs.specs.declared.specifier.operator.Operator.TheVariants.{Equal, EqualStar, ExactEqual, NotEqual, NotEqualStar, TildeEqual, LessThan, LessThanEqual, GreaterThan, GreaterThanEqual}
use Rattle.pep440_version.specs.Patterns.{DerivesPattern}
use Rattle.pep440_version.specs.Record.{Record}

version_of : (o : Operator) (r : Record) (s : Spec) → built o r ≡ Ok s → s.version ≡ r
version_of o r s is = sym (ap (λ (q : Spec). q.version) (built_is o r s is))

denoted : (o : Operator) (r : Record) (star : Bool) (s : Spec) (text : List ℕ) → DerivesPattern text r star → built_pattern o r star ≡ Ok s → IsDenoted s.version
denoted o r false s text h is = subst IsDenoted (sym (version_of o r s is)) (text, h)
denoted Equal r true s text h is = subst IsDenoted (sym (version_of EqualStar r s is)) (h.0, h.1)
denoted NotEqual r true s text h is = subst IsDenoted (sym (version_of NotEqualStar r s is)) (h.0, h.1)
denoted EqualStar r true s text h is = cc is
denoted ExactEqual r true s text h is = cc is
denoted NotEqualStar r true s text h is = cc is
denoted TildeEqual r true s text h is = cc is
denoted LessThan r true s text h is = cc is
denoted LessThanEqual r true s text h is = cc is
denoted GreaterThan r true s text h is = cc is
denoted GreaterThanEqual r true s text h is = cc is

version_denoted : (text : List ℕ) (s : Spec) → DerivesSpecifier text s → IsDenoted s.version
version_denoted text s (c, o, r, star, reads, is, end) = denoted o r star s (encode_utf8_all c.version) reads.version is

pub is_denotable : (s : Spec) → IsDenotedSpecifier s → IsDenotable s
is_denotable s (text, d) = (has_operand s (text, d), version_denoted text s d)

pub answered_denotable : (text : List ℕ) (result : Result (List Spec) VersionSpecifiersParseError) → IfOk result (λ list. DerivesList text list) → IfOk result (λ list. All IsDenotable list)
answered_denotable text (Ok list) h = λ k m lt. is_denotable _ (list_has_texts text list h k m lt)
answered_denotable text (Err e) h = tt
