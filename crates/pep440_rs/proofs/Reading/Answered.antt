-- What follows for a reader's answer from what the reading gives.
use Rattle.std.proofs.Common.{◌≡◌, ℕ, List, sym, subst, Result, Ok, Err, Option, Some, None}
use Rattle.std.specs.Prelude.{IfErr, IfOk, IfSome}
use Rattle.pep440_rs.specs.Errors.{ReturnsSpecifier, parse_kind_of, specifier_rejection_of}
use Rattle.pep440_rs.specs.Specifiers.SpecifierGrammar.{DerivesSpecifier, RejectsSpecifier, SpecifierRejection}
use Rattle.pep440_rs.specs.Specifiers.SpecifierReading.{read_specifier}
use Rattle.pep440_rs.specs.Specifiers.{Spec, print_spec}
use Rattle.pep440_rs.specs.declared.specifier.error.VersionSpecifierParseError.{VersionSpecifierParseError}
use Rattle.pep440_rs.proofs.Reread.Again.{printed_again}
use Rattle.pep440_rs.proofs.Reading.Tells.{Tells, decides, tells}

-- what holds of each refusal of a reading holds of this one
pub told_by : {R X : Type 0} (o : Option R) (read : Result X R) (P : R → Type 0) → ((f : R) → read ≡ Err f → P f) → IfSome o (λ f. read ≡ Err f) → IfSome o P
told_by None read P all h = tt
told_by (Some f) read P all h = all f h

answers_of : (result : Result Spec VersionSpecifierParseError) (read out : Result Spec SpecifierRejection) → read ≡ out → ReturnsSpecifier result read → ReturnsSpecifier result out
answers_of result read out e h = subst (ReturnsSpecifier result) e h

pub is_found : (text : List ℕ) (result : Result Spec VersionSpecifierParseError) → ReturnsSpecifier result (read_specifier text) → IfOk result (λ s. DerivesSpecifier text s)
is_found text (Ok s) h = subst (Tells text) h (tells text)
is_found text (Err e) h = tt

pub is_only : (text : List ℕ) (result : Result Spec VersionSpecifierParseError) → ReturnsSpecifier result (read_specifier text) → (s : Spec) → DerivesSpecifier text s → ReturnsSpecifier result (Ok s)
is_only text result h s d = answers_of result (read_specifier text) (Ok s) (decides text (Ok s) d) h

pub is_refused : (text : List ℕ) (result : Result Spec VersionSpecifierParseError) → ReturnsSpecifier result (read_specifier text)
    → IfErr result (λ e. IfSome (specifier_rejection_of (parse_kind_of e)) (RejectsSpecifier text))
is_refused text (Ok s) h = tt
is_refused text (Err e) h = told_by (specifier_rejection_of (parse_kind_of e)) (read_specifier text) (RejectsSpecifier text) (λ f same. subst (Tells text) same (tells text)) h

pub is_decided : (text : List ℕ) (result : Result Spec VersionSpecifierParseError) → ReturnsSpecifier result (read_specifier text) → (f : SpecifierRejection) → RejectsSpecifier text f → ReturnsSpecifier result (Err f)
is_decided text result h f told = answers_of result (read_specifier text) (Err f) (decides text (Err f) told) h

pub is_again : (text : List ℕ) (result : Result Spec VersionSpecifierParseError) → ReturnsSpecifier result (read_specifier text) → (t : List ℕ) (s : Spec) → DerivesSpecifier t s → text ≡ print_spec s → ReturnsSpecifier result (Ok s)
is_again text result h t s d printed = is_only text result h s (subst (λ x. DerivesSpecifier x s) (sym printed) (printed_again t s d))
