-- What is read of ASCII strings, and what stands last after all steps of a marker.
use Rattle.std.proofs.Common.{arith, ◌≡◌, ◌∙◌, ◌<◌, ◌&&◌, ℕ, List, [], ◌∷◌, Bool, true, false, Option, Some, None, Ok, Err, ap, refl, subst, sym, ◌++◌, append_assoc, not}
use Rattle.std.proofs.lemmas.Bool.{true≢false}
use Rattle.std.proofs.lemmas.List.Elements.{All-cons, All-nil}
use Rattle.std.proofs.lemmas.Str.{IsUtf8-from_ascii}
use Rattle.std.proofs.lemmas.Str.Ascii.{IsAscii-from_all}
use Rattle.std.specs.Char.{is_ascii}
use Rattle.std.specs.List.{All, list_all}
use Rattle.std.specs.Prelude.{IfSome, is_none}
use Rattle.std.specs.Str.{IsUtf8}
use Rattle.pep440_rs.specs.Specifiers.SpecifierGrammar.{DerivesSpecifier, RejectsSpecifier, SpecifierRejection}
use Rattle.pep440_rs.specs.Specifiers.{Spec}
use Rattle.pep440_version.proofs.Reading.Agreement.{only}
use Rattle.pep440_version.specs.Grammar.{Derives}
use Rattle.pep440_version.specs.Record.{Record}
use Rattle.pep440_version.specs.Rejections.{Rejection, Rejects}
use Rattle.pyver_markers.specs.MarkerComparisons.{if_read, ascii_specifier, ascii_version, compare}
use Rattle.std.proofs.lemmas.List.{append-nil}
use Rattle.pyver_requirements.specs.MarkerGrammar.{Both, Comparison, DenotesMarker, Either, Marker}
use Rattle.pyver_requirements.specs.MarkerSteps.{JoinBoth, JoinEither, Step, marker_steps, steps}
use Rattle.pyver_requirements.specs.MarkerTokens.{Side}
use Rattle.pyver_requirements.specs.declared.marker_operator.MarkerOperator.{MarkerOperator}
use Rattle.pyver_requirements.proofs.MarkerStepReadings.{steps_are_read}
use Rattle.pyver_markers.specs.Boxes.{boxes, comparison_boxes, join_boxes}
use Rattle.pyver_markers.specs.Environments.{Environment}
use Rattle.pyver_markers.specs.MarkerValues.{Join, after_steps, both_hold, either_holds, last_value, value}
use Rattle.pep440_rs.proofs.Reading.Tells as specifiers
use Rattle.pep440_version.proofs.Rejections.ExactlyOne as versions

abbrev IsAsciiText : List ℕ → Type 0
IsAsciiText text = list_all is_ascii text ≡ true

byte_is_ascii : (b : ℕ) → is_ascii b ≡ true → b < 128
byte_is_ascii b e = grind arith

both : (a b : Bool) → (a && b) ≡ true → (a ≡ true) × (b ≡ true)
both true true e = (refl, refl)
both true false e = absurd (true≢false (sym e))
both false b e = absurd (true≢false (sym e))

all_ascii : (text : List ℕ) → IsAsciiText text → All (λ b. b < 128) text
all_ascii [] plain = All-nil (λ b. b < 128)
all_ascii (b ∷ text) plain =
    let (here, later) = both (is_ascii b) (list_all is_ascii text) plain in
    All-cons (λ c. c < 128) b text (byte_is_ascii b here) (all_ascii text later)

pub ascii_utf8 : (text : List ℕ) → IsAsciiText text → IsUtf8 text
ascii_utf8 text plain = IsUtf8-from_ascii text (IsAscii-from_all text (all_ascii text plain))

pub specifier_found : (text : List ℕ) (s : Spec) → IsAsciiText text → DerivesSpecifier text s → ascii_specifier text ≡ Some s
specifier_found text s plain d = rw plain (ap if_read (specifiers.decides text (Ok s) d))

pub no_specifier : (text : List ℕ) (o : Option SpecifierRejection) → IsAsciiText text → IfSome o (RejectsSpecifier text) → is_none o ≡ false → ascii_specifier text ≡ None
no_specifier text None plain h some = absurd (true≢false some)
no_specifier text (Some f) plain h some = rw plain (ap if_read (specifiers.decides text (Err f) h))

pub version_found : (text : List ℕ) (v : Record) → IsAsciiText text → Derives text v → ascii_version text ≡ Some v
version_found text v plain d = rw plain (ap if_read (only text v d))

pub no_version : (text : List ℕ) (o : Option Rejection) → IsAsciiText text → IfSome o (Rejects text) → is_none o ≡ false → ascii_version text ≡ None
no_version text None plain h some = absurd (true≢false some)
no_version text (Some f) plain h some = rw plain (ap if_read (versions.decides text f h))

-- the same of a string that is known by another name
pub specifier_read : (text other : List ℕ) (s : Spec) → (other ≡ text) × IsAsciiText text → DerivesSpecifier other s → Some s ≡ ascii_specifier text
specifier_read text other s (same, plain) d = sym (specifier_found text s plain (subst (λ t. DerivesSpecifier t s) same d))

pub no_specifier_read : (text other : List ℕ) (o : Option SpecifierRejection) (b : Bool) → (other ≡ text) × IsAsciiText text → IfSome o (RejectsSpecifier other) → b ≡ is_none o → b ≡ false → None ≡ ascii_specifier text
no_specifier_read text other o b (same, plain) h is isnt = sym (no_specifier text o plain (subst (λ t. IfSome o (RejectsSpecifier t)) same h) (sym is ∙ isnt))

pub no_version_read : (text other : List ℕ) (o : Option Rejection) (b : Bool) → (other ≡ text) × IsAsciiText text → IfSome o (Rejects other) → b ≡ is_none o → b ≡ false → None ≡ ascii_version text
no_version_read text other o b (same, plain) h is isnt = sym (no_version text o plain (subst (λ t. IfSome o (Rejects t)) same h) (sym is ∙ isnt))

pub version_read : (text other : List ℕ) (v : Record) → (other ≡ text) × IsAsciiText text → Derives other v → Some v ≡ ascii_version text
version_read text other v (same, plain) d = sym (version_found text v plain (subst (λ t. Derives t v) same d))

joined : (xs ys : List Step) (s : Step) (rest : List Step) → (xs ++ (ys ++ s ∷ [])) ++ rest ≡ xs ++ (ys ++ s ∷ rest)
joined xs ys s rest = append_assoc xs (ys ++ s ∷ []) rest ∙ ap (λ z. xs ++ z) (append_assoc ys (s ∷ []) rest)

abbrev Compared : Type 0 → Type 0
Compared A = Side → MarkerOperator → Side → Option A

-- what is folded from a marker, case by case
record IsFold (A : Type 0) (f : Marker → Option A) (compared : Compared A) (both either : Join A) : Type 0 where
  comparison : (left : Side) (o : MarkerOperator) (right : Side) → f (Comparison left o right) ≡ compared left o right
  conjunction : (a b : Marker) → f (Both a b) ≡ both (f a) (f b)
  disjunction : (a b : Marker) → f (Either a b) ≡ either (f a) (f b)

taken : {A : Type 0} (f : Marker → Option A) (compared : Compared A) (both either : Join A) → IsFold A f compared both either
    → (m : Marker) (rest : List Step) (values : List (Option A))
    → after_steps compared both either (steps m ++ rest) values ≡ after_steps compared both either rest (f m ∷ values)
taken f compared both either is (Comparison left o right) rest values = ap (λ v. after_steps compared both either rest (v ∷ values)) (sym (is.comparison left o right))
taken f compared both either is (Both a b) rest values =
    ap (λ s. after_steps compared both either s values) (joined (steps a) (steps b) JoinBoth rest)
    ∙ taken f compared both either is a (steps b ++ JoinBoth ∷ rest) values
    ∙ taken f compared both either is b (JoinBoth ∷ rest) (f a ∷ values)
    ∙ ap (λ v. after_steps compared both either rest (v ∷ values)) (sym (is.conjunction a b))
taken f compared both either is (Either a b) rest values =
    ap (λ s. after_steps compared both either s values) (joined (steps a) (steps b) JoinEither rest)
    ∙ taken f compared both either is a (steps b ++ JoinEither ∷ rest) values
    ∙ taken f compared both either is b (JoinEither ∷ rest) (f a ∷ values)
    ∙ ap (λ v. after_steps compared both either rest (v ∷ values)) (sym (is.disjunction a b))

last_is_fold : {A : Type 0} (f : Marker → Option A) (compared : Compared A) (both either : Join A) → IsFold A f compared both either
    → (m : Marker) (all : List Step) → all ≡ steps m → last_value (after_steps compared both either all []) ≡ f m
last_is_fold f compared both either fold m all is =
    ap (λ s. last_value (after_steps compared both either s [])) (is ∙ sym (append-nil (steps m)))
    ∙ ap last_value (taken f compared both either fold m [] [])

pub last_is_value : (e : Environment) (m : Marker) (all : List Step) → all ≡ steps m → last_value (after_steps (compare e) both_hold either_holds all []) ≡ value e m
last_is_value e = last_is_fold (value e) (compare e) both_hold either_holds
    (record { comparison = λ left o right. refl; conjunction = λ a b. refl; disjunction = λ a b. refl })

pub last_is_boxes : (wanted : Bool) (m : Marker) (all : List Step) → all ≡ steps m
    → last_value (after_steps (comparison_boxes wanted) (join_boxes wanted) (join_boxes (not wanted)) all []) ≡ boxes wanted m
last_is_boxes wanted = last_is_fold (boxes wanted) (comparison_boxes wanted) (join_boxes wanted) (join_boxes (not wanted))
    (record { comparison = λ left o right. refl; conjunction = λ a b. refl; disjunction = λ a b. refl })

-- the steps of a string are those of each marker that it denotes
pub one_marker : (text : List ℕ) (all : List Step) → marker_steps text ≡ Ok all → (m : Marker) → DenotesMarker text m → all ≡ steps m
one_marker text all is m d = let read_so : marker_steps text ≡ Ok (steps m) = steps_are_read text m d in cc (is, read_so)
