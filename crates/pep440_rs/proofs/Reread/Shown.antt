-- The print of a record that some text means has visible ASCII alone, no comma, and a digit at its front.
use Rattle.std.proofs.Common.{◌≡◌, ◌<◌, ◌==◌, ℕ, suc, zero, List, [], ◌∷◌, ◌++◌, Bool, true, false, Option, Some, None, IfSome, length, get_or, refl, arith, codes, inl, inr}
use Rattle.std.proofs.lemmas.Bool.{cases_Bool}
use Rattle.std.proofs.lemmas.Bool.Decides.{nat_tests}
use Rattle.std.proofs.lemmas.Fmt.{decimal_nonempty, digits_decimal}
use Rattle.std.specs.Char.{is_ascii_digit, is_whitespace, is_not_whitespace, is_ascii_whitespace}
use Rattle.std.specs.Fmt.{decimal}
use Rattle.std.specs.List.{All, flat_map, list_all}
use Rattle.pep440_version.specs.Grammar.{starts}
use Rattle.pep440_version.specs.Print.{dotted, epoch_text, prerelease_kind_text, local_text, labelled, pre_text, print, print_segment}
use Rattle.pep440_version.specs.Record.{Fits, IsRecord, Number, Record, LocalSegmentValue, SegmentFits, Text}
use Rattle.pep440_version.specs.RoundTrip.{RoundTrips, SegmentRoundTrips, is_lower}
use Rattle.pep440_version.specs.declared.prerelease.Prerelease.{Prerelease}
use Rattle.pep440_version.specs.declared.prerelease.PrereleaseKind.{PrereleaseKind}
use Rattle.pep440_version.specs.declared.prerelease.PrereleaseKind.TheVariants.{Alpha, Beta, Rc}
use Rattle.pep440_version.proofs.Reading.Prefixes.{both_first}
use Rattle.pep440_version.proofs.Reading.Digits.{digits_model}
use Rattle.pep440_version.proofs.RoundTrip.PrintIsRead.{fits_at}
use Rattle.pep440_rs.specs.Specifiers.SpecifierGrammar.{is_operator_char}
use Rattle.pep440_rs.proofs.Reread.Plain.{all_joined, all_weaker, is_shown}

digit_shown : (b : ℕ) → is_ascii_digit b ≡ true → is_shown b ≡ true
digit_shown b h = grind (arith, nat_tests)

lower_shown : (b : ℕ) → is_lower b ≡ true → is_shown b ≡ true
lower_shown b h = grind (arith, nat_tests)

pub operator_shown : (b : ℕ) → is_operator_char b ≡ true → is_shown b ≡ true
operator_shown b h = grind (arith, nat_tests)

pub shown_low : (b : ℕ) → is_shown b ≡ true → b < 128
shown_low b h = grind (arith, nat_tests)

pub shown_not_white : (b : ℕ) → is_shown b ≡ true → is_not_whitespace b ≡ true
shown_not_white b h = grind (arith, nat_tests)

pub digit_not_white : (b : ℕ) → is_ascii_digit b ≡ true → is_whitespace b ≡ false
digit_not_white b h = grind (arith, nat_tests)

pub operator_not_white : (b : ℕ) → is_operator_char b ≡ true → is_whitespace b ≡ false
operator_not_white b h = grind (arith, nat_tests)

pub digit_not_operator : (b : ℕ) → is_ascii_digit b ≡ true → is_operator_char b ≡ false
digit_not_operator b h = grind (arith, nat_tests)

pub blank_not_shown : (b : ℕ) → is_ascii_whitespace b ≡ true → is_shown b ≡ false
blank_not_shown b h = grind (arith, nat_tests)

decimal_shown : (n : ℕ) → Fits n → list_all is_shown (decimal n) ≡ true
decimal_shown n fits = all_weaker is_ascii_digit is_shown digit_shown (decimal n) (digits_decimal digits_model n fits)

flat_shown : {A : Type 0} (f : A → List ℕ) (xs : List A) → All (λ x. list_all is_shown (f x) ≡ true) xs → list_all is_shown (flat_map f xs) ≡ true
flat_shown f [] h = refl
flat_shown f (x ∷ xs) h = all_joined is_shown (f x) (flat_map f xs) (h 0 x (omega arith)) (flat_shown f xs (λ k d lt. h (suc k) d (omega (arith, lt))))

dotted_shown : {A : Type 0} (f : A → List ℕ) (xs : List A) → All (λ x. list_all is_shown (f x) ≡ true) xs → list_all is_shown (dotted f xs) ≡ true
dotted_shown f [] h = refl
dotted_shown f (x ∷ xs) h = all_joined is_shown (f x) _ (h 0 x (omega arith))
    (flat_shown (λ y. codes "." ++ f y) xs (λ k d lt. all_joined is_shown (codes ".") (f (get_or xs k d)) refl (h (suc k) d (omega (arith, lt)))))

numbers_shown : (ns : List ℕ) → ((i : ℕ) → Fits (get_or ns i 0)) → All (λ n. list_all is_shown (decimal n) ≡ true) ns
numbers_shown [] fits k d lt = absurd (omega (arith, lt))
numbers_shown (n ∷ ns) fits zero d lt = decimal_shown n (fits 0)
numbers_shown (n ∷ ns) fits (suc k) d lt = numbers_shown ns (λ i. fits (suc i)) k d (omega (arith, lt))

segment_shown : (s : LocalSegmentValue) → SegmentFits s → SegmentRoundTrips s → list_all is_shown (print_segment s) ≡ true
segment_shown (Text t) fits h = all_weaker is_lower is_shown lower_shown t h.1
segment_shown (Number n) fits h = decimal_shown n fits

epoch_shown : (n : ℕ) → Fits n → list_all is_shown (epoch_text n) ≡ true
epoch_shown n fits = elim (cases_Bool (n == 0)) [
  | inl e ↦ rw e refl
  | inr e ↦ rw e (all_joined is_shown (decimal n) (codes "!") (decimal_shown n fits) refl)
]

kind_shown : (k : PrereleaseKind) → list_all is_shown (prerelease_kind_text k) ≡ true
kind_shown Alpha = refl
kind_shown Beta = refl
kind_shown Rc = refl

pre_shown : (pre : Option Prerelease) → IfSome pre (λ p. Fits p.number) → list_all is_shown (pre_text pre) ≡ true
pre_shown None fits = refl
pre_shown (Some p) fits = all_joined is_shown (prerelease_kind_text p.kind) (decimal p.number) (kind_shown p.kind) (decimal_shown p.number fits)

marked_shown : (mark : List ℕ) → list_all is_shown mark ≡ true → (o : Option ℕ) → IfSome o Fits → list_all is_shown (labelled mark o) ≡ true
marked_shown mark h None fits = refl
marked_shown mark h (Some n) fits = all_joined is_shown mark (decimal n) h (decimal_shown n fits)

local_shown : (local : List LocalSegmentValue) → All SegmentFits local → All SegmentRoundTrips local → list_all is_shown (local_text local) ≡ true
local_shown [] fits h = refl
local_shown (s ∷ rest) fits h = all_joined is_shown (codes "+") (dotted print_segment (s ∷ rest)) refl
    (dotted_shown print_segment (s ∷ rest) (λ k d lt. segment_shown _ (fits k d lt) (h k d lt)))

pub print_shown : (r : Record) → IsRecord r → RoundTrips r → list_all is_shown (print r) ≡ true
print_shown r h again =
    all_joined is_shown (epoch_text r.epoch) _ (epoch_shown r.epoch h.epoch)
    (all_joined is_shown (dotted decimal r.release) _ (dotted_shown decimal r.release (numbers_shown r.release (fits_at r.release h.release)))
    (all_joined is_shown (pre_text r.pre) _ (pre_shown r.pre h.pre)
    (all_joined is_shown (labelled (codes ".post") r.post) _ (marked_shown (codes ".post") refl r.post h.post)
    (all_joined is_shown (labelled (codes ".dev") r.dev) _ (marked_shown (codes ".dev") refl r.dev h.dev)
    (local_shown r.local h.local again.local)))))

pub begins_still : (p : ℕ → Bool) (t u : List ℕ) → starts p t ≡ true → starts p (t ++ u) ≡ true
begins_still p [] u h = cc h
begins_still p (b ∷ t) u h = h

all_begins : (p : ℕ → Bool) (t : List ℕ) → 0 < length t → list_all p t ≡ true → starts p t ≡ true
all_begins p [] some h = absurd (omega (arith, some))
all_begins p (b ∷ t) some h = both_first (p b) (list_all p t) h

decimal_begins : (n : ℕ) → Fits n → starts is_ascii_digit (decimal n) ≡ true
decimal_begins n fits = all_begins is_ascii_digit (decimal n) (decimal_nonempty n fits) (digits_decimal digits_model n fits)

release_begins : (ns : List ℕ) → 0 < length ns → ((i : ℕ) → Fits (get_or ns i 0)) → starts is_ascii_digit (dotted decimal ns) ≡ true
release_begins [] some fits = absurd (omega (arith, some))
release_begins (n ∷ ns) some fits = begins_still is_ascii_digit (decimal n) _ (decimal_begins n (fits 0))

pub print_begins : (r : Record) → IsRecord r → starts is_ascii_digit (print r) ≡ true
print_begins r h = elim (cases_Bool (r.epoch == 0)) [
  | inl e ↦ rw e (begins_still is_ascii_digit (dotted decimal r.release) _ (release_begins r.release h.some (fits_at r.release h.release)))
  | inr e ↦ rw e (begins_still is_ascii_digit (decimal r.epoch ++ codes "!") _ (begins_still is_ascii_digit (decimal r.epoch) (codes "!") (decimal_begins r.epoch h.epoch)))
]
