-- The texts of what reading refuses.
use Rattle.std.proofs.Common.{◌≡◌, ◌∙◌, ℕ, List, true, Option, Some, None, refl, ap}
use Rattle.std.specs.Char.{is_ascii}
use Rattle.std.specs.List.{list_all}
use Rattle.std.specs.Prelude.{IfErr, IfSome, Result, Ok, Err}
use Rattle.std.specs.Str.{encode_utf8_all}
use Rattle.pep440_version.specs.ErrorTexts.{pattern_rejection_text, pattern_error_text}
use Rattle.pep440_version.specs.Rejections.{LocalEmpty, NoLeadingNumber, NoLeadingReleaseNumber, NumberTooBig, OfVersion, PatternRejection, RejectsPattern, UnexpectedEnd, Wildcard, WildcardNotTrailing}
use Rattle.pep440_rs.specs.ErrorTexts.{specifier_error_text, specifier_rejection_text}
use Rattle.pep440_rs.specs.Errors.{parse_kind_of, specifier_rejection_of}
use Rattle.pep440_rs.specs.Specifiers.SpecifierGrammar.{InvalidOperator, InvalidSpecifier, InvalidTrailing, InvalidVersion, MissingOperator, MissingVersion, RejectsSpecifier, SpecifierRejection}
use Rattle.pep440_rs.specs.Specifiers.{Spec}
use Rattle.pep440_rs.specs.declared.specifier.error.VersionSpecifierParseError.{VersionSpecifierParseError}
use Rattle.pep440_rs.proofs.Reread.Plain.{operator_plain}

pattern_told : (text : List ℕ) (f : PatternRejection) → RejectsPattern text f → pattern_error_text (Some f) ≡ Some (pattern_rejection_text f)
pattern_told text WildcardNotTrailing h = refl
pattern_told text (OfVersion Wildcard) h = refl
pattern_told text (OfVersion (NumberTooBig digits)) (prefix, rest, r, decomposition, run, zero, more) = rw (run.0) refl
pattern_told text (OfVersion NoLeadingNumber) h = refl
pattern_told text (OfVersion NoLeadingReleaseNumber) h = refl
pattern_told text (OfVersion (LocalEmpty c)) h = refl
pattern_told text (OfVersion (UnexpectedEnd version remaining)) h = refl

pub refusal_told : (text : List ℕ) (f : SpecifierRejection) → RejectsSpecifier text f → specifier_error_text (Some f) ≡ Some (specifier_rejection_text f)
refusal_told text MissingOperator h = refl
refusal_told text (InvalidOperator got) (c, some, is, none) =
    let plain : list_all is_ascii got ≡ true = ap (list_all is_ascii) is ∙ operator_plain c.operator c.operator_run.0 in
    rw plain refl
refusal_told text MissingVersion h = refl
refusal_told text (InvalidVersion f) (c, o, spells, some, refuses) = pattern_told (encode_utf8_all c.version) f refuses
refusal_told text (InvalidSpecifier b) h = refl
refusal_told text (InvalidTrailing rest) h = refl

specifier_told : (text : List ℕ) (o : Option SpecifierRejection) → IfSome o (RejectsSpecifier text) → IfSome o (λ f. specifier_error_text o ≡ Some (specifier_rejection_text f))
specifier_told text None h = tt
specifier_told text (Some f) h = refusal_told text f h

pub is_told : (text : List ℕ) (result : Result Spec VersionSpecifierParseError) → IfErr result (λ e. IfSome (specifier_rejection_of (parse_kind_of e)) (RejectsSpecifier text))
    → IfErr result (λ e. IfSome (specifier_rejection_of (parse_kind_of e)) (λ f. specifier_error_text (specifier_rejection_of (parse_kind_of e)) ≡ Some (specifier_rejection_text f)))
is_told text (Ok s) h = tt
is_told text (Err e) h = specifier_told text (specifier_rejection_of (parse_kind_of e)) h
