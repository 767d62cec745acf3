-- What a text gives beside an operator other than `===` is a version that range and matching can be compared for.
use Rattle.std.proofs.Common.{◌≡◌, ◌==◌, ◌&&◌, ℕ, zero, suc, List, [], ◌∷◌, Bool, true, false, Result, Ok, Err, refl, sym, ap, subst, ◌∙◌, length, nat_lt, not, arith, inl, inr, if◌then◌else◌}
use Rattle.std.proofs.lemmas.Bool.Decides.{nat_tests}
use Rattle.std.proofs.lemmas.List.Sorted.{All-permutation}
use Rattle.std.specs.List.{All, AllZip}
use mathlib.Core.Bool.{true≢false}
use Rattle.std.specs.Prelude.{IfOk, IsTrue}
use Rattle.std.specs.Str.{encode_utf8_all}
use Rattle.pep440_version.specs.Grammar.{Derives}
use Rattle.pep440_version.specs.Patterns.{DerivesPattern}
use Rattle.pep440_version.specs.Record.{Record, LocalSegmentValue, epoch_and_release}
use Rattle.pep440_rs.specs.Agreement.{HasOperand, HasNoLocalOrSentinel}
use Rattle.pep440_rs.specs.Build.{BuildRejection, CompatibleRelease, OperatorLocalCombo, built, built_pattern, is_compatible}
use Rattle.pep440_rs.specs.Lists.ListGrammar.{DerivesList, pieces}
use Rattle.pep440_rs.specs.Matching.{has_local}
use Rattle.pep440_rs.specs.Operators.{allows_local, is_star}
use Rattle.pep440_rs.specs.Specifiers.SpecifierGrammar.{DerivesSpecifier, IsDenotedSpecifier}
use Rattle.pep440_rs.specs.Specifiers.{Spec}
use Rattle.pep440_rs.specs.declared.list.error.VersionSpecifiersParseError.{VersionSpecifiersParseError}
use Rattle.pep440_rs.specs.declared.specifier.operator.Operator.{Operator}
use Rattle.pep440_rs.specs.declared.specifier.operator.Operator.TheVariants.{Equal, EqualStar, ExactEqual, NotEqual, NotEqualStar, TildeEqual, LessThan, LessThanEqual, GreaterThan, GreaterThanEqual}
use Rattle.pep440_rs.specs.declared.specifier.error.VersionSpecifierParseError.{VersionSpecifierParseError}
use Rattle.pep440_rs.proofs.Reread.Again.{built_is}

-- ---- no local part beside an operator that does not allow it

passed : (a allowed b : Bool) (x y : BuildRejection) (v s : Spec) → (let z : Result Spec BuildRejection = if a && not allowed then Err x else if b then Err y else Ok v in z) ≡ Ok s → allowed ≡ false → a ≡ false
passed true true b x y v s e h = cc h
passed true false b x y v s e h = cc e
passed false allowed b x y v s e h = refl

no_local : (o : Operator) (r : Record) (s : Spec) → allows_local o ≡ false → built o r ≡ Ok s → has_local r ≡ false
no_local o r s none is = passed (has_local r) (allows_local o) (is_compatible o && nat_lt (length r.release) 2) (OperatorLocalCombo o r) CompatibleRelease _ s is none

no_segment : (local : List LocalSegmentValue) → not (length local == 0) ≡ false → local ≡ []
no_segment [] h = refl
no_segment (x ∷ local) h = grind (arith, nat_tests)

plain : (text : List ℕ) (r : Record) → Derives text r → has_local r ≡ false → HasNoLocalOrSentinel r
plain text r h none = record { local = no_segment r.local none; min = h.no_min; max = h.no_max }

-- ---- of an operator and a pattern

given : (o : Operator) (r : Record) (s : Spec) → HasOperand (record { operator = o; version = r }) → built o r ≡ Ok s → HasOperand s
given o r s fits is = subst HasOperand (built_is o r s is) fits

unstarred : (o : Operator) (r : Record) (s : Spec) (u : List ℕ) → is_star o ≡ false → DerivesPattern u r false → built o r ≡ Ok s → HasOperand s
unstarred o r s u no_star h is =
    given o r s (record { star = λ star. absurd (true≢false (sym star ∙ no_star)); plain = λ none. plain u r h (no_local o r s (un_not (allows_local o) none) is) }) is
  where
    un_not : (b : Bool) → IsTrue (not b) → b ≡ false
    un_not true none = cc none
    un_not false none = refl

starred : (o : Operator) (r : Record) (s : Spec) → r ≡ epoch_and_release r.epoch r.release → built o r ≡ Ok s → HasOperand s
starred o r s release is =
    given o r s (record { star = λ star. release; plain = λ none. record { local = ap (λ (q : Record). q.local) release; min = ap (λ (q : Record). q.min) release; max = ap (λ (q : Record). q.max) release } }) is

operand : (o : Operator) (r : Record) (star : Bool) (s : Spec) (u : List ℕ) → is_star o ≡ false → DerivesPattern u r star → built_pattern o r star ≡ Ok s → HasOperand s
operand o r false s u no_star h is = unstarred o r s u no_star h is
operand Equal r true s u no_star h is = starred EqualStar r s h.4 is
operand NotEqual r true s u no_star h is = starred NotEqualStar r s h.4 is
operand ExactEqual r true s u no_star h is = cc is
operand EqualStar r true s u no_star h is = cc no_star
operand NotEqualStar r true s u no_star h is = cc no_star
operand TildeEqual r true s u no_star h is = cc is
operand LessThan r true s u no_star h is = cc is
operand LessThanEqual r true s u no_star h is = cc is
operand GreaterThan r true s u no_star h is = cc is
operand GreaterThanEqual r true s u no_star h is = cc is

-- ---- of a text

pub text_gives : (text : List ℕ) (s : Spec) → DerivesSpecifier text s → HasOperand s
text_gives text s (c, o, r, star, reads, is, end) = operand o r star s (encode_utf8_all c.version) reads.operator.1 reads.version is

-- what each text gives holds of each member
each_gives : (P : Spec → Type 0) → ((text : List ℕ) (s : Spec) → DerivesSpecifier text s → P s) → (ps : List (List ℕ)) (members : List Spec) → AllZip DerivesSpecifier ps members → All P members
each_gives P gives ps [] h k d lt = absurd (omega (arith, lt))
each_gives P gives [] (s ∷ list) h k d lt = elim h [ ]
each_gives P gives (p ∷ ps) (s ∷ list) h zero d lt = gives p s h.0
each_gives P gives (p ∷ ps) (s ∷ list) h (suc k) d lt = each_gives P gives ps list h.1 k d (omega (arith, lt))

members_give : (P : Spec → Type 0) → ((text : List ℕ) (s : Spec) → DerivesSpecifier text s → P s) → (text : List ℕ) (list : List Spec) → DerivesList text list → All P list
members_give P gives text list (inl e) = subst (λ l. All P l) (sym e.1) (λ k d lt. absurd (omega (arith, lt)))
members_give P gives text list (inr (some, members, each, arranged)) = All-permutation P members list arranged.same (each_gives P gives (pieces text) members each)

pub list_gives : (text : List ℕ) (list : List Spec) → DerivesList text list → All HasOperand list
list_gives = members_give HasOperand text_gives

pub list_has_texts : (text : List ℕ) (list : List Spec) → DerivesList text list → All IsDenotedSpecifier list
list_has_texts = members_give IsDenotedSpecifier (λ text s d. (text, d))

-- ---- of an answer

pub answered_operand : (text : List ℕ) (result : Result Spec VersionSpecifierParseError) → IfOk result (λ s. DerivesSpecifier text s) → IfOk result HasOperand
answered_operand text (Ok s) h = text_gives text s h
answered_operand text (Err e) h = tt

pub answered_operands : (text : List ℕ) (result : Result (List Spec) VersionSpecifiersParseError) → IfOk result (λ list. DerivesList text list) → IfOk result (λ list. All HasOperand list)
answered_operands text (Ok list) h = list_gives text list h
answered_operands text (Err e) h = tt
