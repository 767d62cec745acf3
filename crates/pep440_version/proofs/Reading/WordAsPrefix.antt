-- A text that begins with a word, but for case.
use Rattle.std.proofs.Common.{◌≡◌, ◌≤◌, ◌<◌, ◌+◌, ◌-◌, ◌==◌, ℕ, suc, zero, Bool, true, false, List, [], ◌∷◌, refl, sym, ◌∙◌, arith, length, get_or, nat_lt, inl, inr}
use Rattle.std.proofs.lemmas.Bool.{cases_Bool}
use Rattle.std.proofs.lemmas.Bool.Decides.{nat_tests}
use Rattle.std.specs.Char.{to_ascii_lowercase}
use Rattle.std.specs.List.{list_all, prefix_len}
use Rattle.pep440_version.specs.Suffixes.{starts_with_word}
use Rattle.pep440_version.proofs.Reading.Prefixes.{both_first, both_second}

pub begins_short : (u t : List ℕ) → length t < length u → starts_with_word u t ≡ false
begins_short [] t less = absurd (omega (arith, less))
begins_short (c ∷ cs) [] less = refl
begins_short (c ∷ cs) (b ∷ t) less = elim (cases_Bool (to_ascii_lowercase b == c)) [
  | inl e ↦ rw (e, begins_short cs t (omega (arith, less))) refl
  | inr e ↦ rw e refl
]

pub begins_inside : (u t : List ℕ) → starts_with_word u t ≡ true → length u ≤ length t
begins_inside [] t e = omega arith
begins_inside (c ∷ cs) [] e = cc e
begins_inside (c ∷ cs) (b ∷ t) e = let more = begins_inside cs t (both_second (to_ascii_lowercase b == c) _ e) in omega (arith, more)

lower_ascii : (b c : ℕ) → (to_ascii_lowercase b == c) ≡ true → nat_lt c 128 ≡ true → b < 128
lower_ascii b c e a = grind (arith, nat_tests)

begins_at : (u t : List ℕ) (i : ℕ) → starts_with_word u t ≡ true → list_all (λ b. nat_lt b 128) u ≡ true → i < length u → get_or t i 0 < 128
begins_at [] t i e a less = absurd (omega (arith, less))
begins_at (c ∷ cs) [] i e a less = cc e
begins_at (c ∷ cs) (b ∷ t) zero e a less = lower_ascii b c (both_first _ (starts_with_word cs t) e) (both_first (nat_lt c 128) _ a)
begins_at (c ∷ cs) (b ∷ t) (suc i) e a less = begins_at cs t i (both_second (to_ascii_lowercase b == c) _ e) (both_second (nat_lt c 128) _ a) (omega (arith, less))

pub begins_ascii : (u t : List ℕ) → starts_with_word u t ≡ true → list_all (λ b. nat_lt b 128) u ≡ true → 0 < length u → get_or t (length u - 1) 0 < 128
begins_ascii u t e a some = begins_at u t (length u - 1) e a (omega (arith, some))

-- all pass where the longest front of such is as long as the text
pub all_prefix : (p : ℕ → Bool) (t : List ℕ) (b : Bool) → ((prefix_len p t == length t) ≡ b) → b ≡ list_all p t
all_prefix p t b e = sym e ∙ whole p t
  where
    inside : (p : ℕ → Bool) (t : List ℕ) → prefix_len p t ≤ length t
    inside p [] = omega arith
    inside p (x ∷ t) = elim (cases_Bool (p x)) [
      | inl e ↦ let more = inside p t in rw e (omega (arith, more))
      | inr e ↦ rw e (omega arith)
    ]

    longer : (n : ℕ) → (0 == suc n) ≡ false
    longer n = grind (arith, nat_tests)

    next : (n m : ℕ) → (1 + n == suc m) ≡ (n == m)
    next n m = grind (arith, nat_tests)

    whole : (p : ℕ → Bool) (t : List ℕ) → (prefix_len p t == length t) ≡ list_all p t
    whole p [] = refl
    whole p (x ∷ t) = elim (cases_Bool (p x)) [
      | inl e ↦ rw e (next (prefix_len p t) (length t) ∙ whole p t)
      | inr e ↦ rw (e, longer (length t)) refl
    ]
