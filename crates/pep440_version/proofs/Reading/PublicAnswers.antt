-- What follows for a reader's answer from what the reading gives.
use Rattle.std.proofs.Common.{◌≡◌, ℕ, List, Bool, refl, sym, ap, ◌∙◌, subst, Result, Ok, Err, Option, Some, None, option_map}
use Rattle.std.specs.Prelude.{IfSome, IfOk, IfErr}
use Rattle.pep440_version.specs.declared.error.VersionParseError.{VersionParseError}
use Rattle.pep440_version.specs.declared.error.VersionPatternParseError.{VersionPatternParseError}
use Rattle.pep440_version.specs.ErrorTexts.{rejection_text, error_text, pattern_error_text, pattern_rejection_text}
use Rattle.pep440_version.specs.Errors.{ReturnsOutcome, error_rejection, pattern_error_rejection}
use Rattle.pep440_version.specs.Grammar.{Derives}
use Rattle.pep440_version.specs.Patterns.{DerivesPattern}
use Rattle.pep440_version.specs.Print.{print}
use Rattle.pep440_version.specs.Reading.{Read}
use Rattle.pep440_version.specs.Record.{Record, IsRecord}
use Rattle.pep440_version.specs.Rejections.{Rejection, Wildcard, NumberTooBig, NoLeadingNumber, NoLeadingReleaseNumber, LocalEmpty, UnexpectedEnd, PatternRejection, OfVersion, WildcardNotTrailing, Rejects, RejectsPattern}
use Rattle.pep440_version.specs.RoundTrip.{RoundTrips}
use Rattle.pep440_version.specs.Whole.{read_version, read_pattern, version_of}
use Rattle.pep440_version.proofs.Reading.Agreement.{found, only, found_pattern, only_pattern}
use Rattle.pep440_version.proofs.Rejections.ExactlyOne.{decides, decides_pattern, sound_pattern}
use Rattle.pep440_version.proofs.RoundTrip.PrintIsRead.{reread, derived_again}
use Rattle.pep440_version.proofs.Rejections.FaultsHaveErrors.{sound}

-- an answer of one reading is an answer of what it is equal to
pub answers_of : (result : Result Record VersionParseError) (read out : Read Record) → read ≡ out → ReturnsOutcome error_rejection result read → ReturnsOutcome error_rejection result out
answers_of result read out e h = subst (ReturnsOutcome error_rejection result) e h

pub version_fault : (o : Option Rejection) (read : Result (Record × Bool) PatternRejection) (out : Read Record) → version_of read ≡ out → IfSome (option_map OfVersion o) (λ f. read ≡ Err f) → IfSome o (λ f. out ≡ Err f)
version_fault None read out e h = tt
version_fault (Some f) read out e h = sym e ∙ ap version_of h

-- what holds of each refusal of a reading holds of this one
told_by : {R X : Type 0} (o : Option R) (read : Result X R) (P : R → Type 0) → ((f : R) → read ≡ Err f → P f) → IfSome o (λ f. read ≡ Err f) → IfSome o P
told_by None read P all h = tt
told_by (Some f) read P all h = all f h

-- the text of a refusal that is told by a text
text_told : (text : List ℕ) (f : Rejection) → Rejects text f → error_text (Some f) ≡ Some (rejection_text f)
text_told text Wildcard h = refl
text_told text (NumberTooBig digits) (prefix, rest, r, decomposition, run, zero, more) = rw (run.0) refl
text_told text NoLeadingNumber h = refl
text_told text NoLeadingReleaseNumber h = refl
text_told text (LocalEmpty c) h = refl
text_told text (UnexpectedEnd version remaining) h = refl

pattern_text_told : (text : List ℕ) (f : PatternRejection) → RejectsPattern text f → pattern_error_text (Some f) ≡ Some (pattern_rejection_text f)
pattern_text_told text WildcardNotTrailing h = refl
pattern_text_told text (OfVersion Wildcard) h = refl
pattern_text_told text (OfVersion (NumberTooBig digits)) (prefix, rest, r, decomposition, run, zero, more) = rw (run.0) refl
pattern_text_told text (OfVersion NoLeadingNumber) h = refl
pattern_text_told text (OfVersion NoLeadingReleaseNumber) h = refl
pattern_text_told text (OfVersion (LocalEmpty c)) h = refl
pattern_text_told text (OfVersion (UnexpectedEnd version remaining)) h = refl

refusal_told : (text : List ℕ) (o : Option Rejection) → IfSome o (Rejects text) → IfSome o (λ f. error_text o ≡ Some (rejection_text f))
refusal_told text None h = tt
refusal_told text (Some f) h = text_told text f h

pattern_refusal_told : (text : List ℕ) (o : Option PatternRejection) → IfSome o (RejectsPattern text) → IfSome o (λ f. pattern_error_text o ≡ Some (pattern_rejection_text f))
pattern_refusal_told text None h = tt
pattern_refusal_told text (Some f) h = pattern_text_told text f h

pub is_found : (text : List ℕ) (result : Result Record VersionParseError) → ReturnsOutcome error_rejection result (read_version text) → IfOk result (λ v. Derives text v)
is_found text (Ok v) h = found text v h
is_found text (Err e) h = tt

pub is_only : (text : List ℕ) (result : Result Record VersionParseError) → ReturnsOutcome error_rejection result (read_version text) → (r : Record) → Derives text r → ReturnsOutcome error_rejection result (Ok r)
is_only text result h r d = answers_of result (read_version text) (Ok r) (only text r d) h

pub is_refused : (text : List ℕ) (result : Result Record VersionParseError) → ReturnsOutcome error_rejection result (read_version text) → IfErr result (λ e. IfSome (error_rejection e) (Rejects text))
is_refused text (Ok v) h = tt
is_refused text (Err e) h = told_by (error_rejection e) (read_version text) (Rejects text) (sound text) h

pub is_decided : (text : List ℕ) (result : Result Record VersionParseError) → ReturnsOutcome error_rejection result (read_version text) → (f : Rejection) → Rejects text f → ReturnsOutcome error_rejection result (Err f)
is_decided text result h f told = answers_of result (read_version text) (Err f) (decides text f told) h

pub is_told : (text : List ℕ) (result : Result Record VersionParseError) → ReturnsOutcome error_rejection result (read_version text) → IfErr result (λ e. IfSome (error_rejection e) (λ f. error_text (error_rejection e) ≡ Some (rejection_text f)))
is_told text (Ok v) h = tt
is_told text (Err e) h = refusal_told text (error_rejection e) (is_refused text (Err e) h)

pub is_reread : (text : List ℕ) (result : Result Record VersionParseError) → ReturnsOutcome error_rejection result (read_version text) → (r : Record) → IsRecord r → RoundTrips r → text ≡ print r → ReturnsOutcome error_rejection result (Ok r)
is_reread text result h r fits again printed = is_only text result h r (subst (λ t. Derives t r) (sym printed) (reread r fits again))

pub is_again : (text : List ℕ) (result : Result Record VersionParseError) → ReturnsOutcome error_rejection result (read_version text) → (t : List ℕ) (r : Record) → Derives t r → text ≡ print r → ReturnsOutcome error_rejection result (Ok r)
is_again text result h t r d printed = is_only text result h r (subst (λ s. Derives s r) (sym printed) (derived_again t r d))

-- the same of patterns
pattern_answers_of : (result : Result (Record × Bool) VersionPatternParseError) (read out : Result (Record × Bool) PatternRejection) → read ≡ out → ReturnsOutcome pattern_error_rejection result read → ReturnsOutcome pattern_error_rejection result out
pattern_answers_of result read out e h = subst (ReturnsOutcome pattern_error_rejection result) e h

pub is_pattern_found : (text : List ℕ) (result : Result (Record × Bool) VersionPatternParseError) → ReturnsOutcome pattern_error_rejection result (read_pattern text) → IfOk result (λ p. DerivesPattern text p.0 p.1)
is_pattern_found text (Ok p) h = found_pattern text p.0 p.1 h
is_pattern_found text (Err e) h = tt

pub is_pattern_only : (text : List ℕ) (result : Result (Record × Bool) VersionPatternParseError) → ReturnsOutcome pattern_error_rejection result (read_pattern text) → (r : Record) (star : Bool) → DerivesPattern text r star → ReturnsOutcome pattern_error_rejection result (Ok (r, star))
is_pattern_only text result h r star d = pattern_answers_of result (read_pattern text) (Ok (r, star)) (only_pattern text r star d) h

pub is_pattern_refused : (text : List ℕ) (result : Result (Record × Bool) VersionPatternParseError) → ReturnsOutcome pattern_error_rejection result (read_pattern text)
    → IfErr result (λ e. IfSome (pattern_error_rejection e) (RejectsPattern text))
is_pattern_refused text (Ok p) h = tt
is_pattern_refused text (Err e) h = told_by (pattern_error_rejection e) (read_pattern text) (RejectsPattern text) (sound_pattern text) h

pub is_pattern_decided : (text : List ℕ) (result : Result (Record × Bool) VersionPatternParseError) → ReturnsOutcome pattern_error_rejection result (read_pattern text) → (f : PatternRejection) → RejectsPattern text f → ReturnsOutcome pattern_error_rejection result (Err f)
is_pattern_decided text result h f told = pattern_answers_of result (read_pattern text) (Err f) (decides_pattern text f told) h

pub is_pattern_told : (text : List ℕ) (result : Result (Record × Bool) VersionPatternParseError) → ReturnsOutcome pattern_error_rejection result (read_pattern text)
    → IfErr result (λ e. IfSome (pattern_error_rejection e) (λ f. pattern_error_text (pattern_error_rejection e) ≡ Some (pattern_rejection_text f)))
is_pattern_told text (Ok p) h = tt
is_pattern_told text (Err e) h = pattern_refusal_told text (pattern_error_rejection e) (is_pattern_refused text (Err e) h)
