-- Fronts of texts.
use Rattle.std.proofs.Common.{◌≡◌, ◌∙◌, ◌<◌, ◌+◌, ◌-◌, ◌==◌, ◌&&◌, ℕ, suc, zero, Bool, true, false, List, [], ◌∷◌, ◌++◌, refl, sym, ap, arith, length, inl, inr, get_or, ◌≤◌, subst}
use Rattle.std.proofs.lemmas.Bool.{cases_Bool}
use Rattle.std.proofs.lemmas.Bool.Decides.{nat_tests}
use Rattle.std.proofs.Math.Seq.{drop-append_seam, take-append_seam}
use Rattle.std.specs.Char.{is_ascii_digit, is_ascii_alphanumeric, is_ascii_whitespace}
use Rattle.std.specs.List.{prefix_len, list_all}
use Rattle.pep440_version.specs.Grammar.{starts, is_v}
use Rattle.pep440_version.specs.Reading.{lead, past}
use Rattle.std.proofs.lemmas.Str.{IsCharBoundary-start, IsCharBoundary-after_ascii}
use Rattle.std.specs.Str.{IsCharBoundary, IsUtf8}

pub both_first : (a b : Bool) → (a && b) ≡ true → a ≡ true
both_first true b e = refl
both_first false b e = cc e

pub both_second : (a b : Bool) → (a && b) ≡ true → b ≡ true
both_second true b e = e
both_second false b e = cc e

pub run : (p : ℕ → Bool) (a b : List ℕ) → list_all p a ≡ true → starts p b ≡ false → prefix_len p (a ++ b) ≡ length a
run p [] [] h s = refl
run p [] (y ∷ ys) h s = rw s refl
run p (x ∷ xs) b h s = rw (both_first (p x) (list_all p xs) h, run p xs b (both_second (p x) (list_all p xs) h) s) (omega arith)

pub lead-run : (p : ℕ → Bool) (a b : List ℕ) → list_all p a ≡ true → starts p b ≡ false → lead p (a ++ b) ≡ a
lead-run p a b h s = rw (run p a b h s) (take-append_seam a b)

pub past-run : (p : ℕ → Bool) (a b : List ℕ) → list_all p a ≡ true → starts p b ≡ false → past p (a ++ b) ≡ b
past-run p a b h s = rw (run p a b h s) (drop-append_seam a b)

-- a text has one longest front
pub same_front : (p : ℕ → Bool) (a b c d : List ℕ) → list_all p a ≡ true → starts p b ≡ false → list_all p c ≡ true → starts p d ≡ false → a ++ b ≡ c ++ d → (a ≡ c) × (b ≡ d)
same_front p a b c d f s g t e = (sym (lead-run p a b f s) ∙ ap (lead p) e ∙ lead-run p c d g t, sym (past-run p a b f s) ∙ ap (past p) e ∙ past-run p c d g t)

-- a text is its longest front and the rest
pub lead-all : (p : ℕ → Bool) (t : List ℕ) → list_all p (lead p t) ≡ true
lead-all p [] = refl
lead-all p (x ∷ xs) = elim (cases_Bool (p x)) [
  | inl e ↦
      let s : 1 + prefix_len p xs ≡ suc (prefix_len p xs) = omega arith in
      rw (e, s, e) (lead-all p xs)
  | inr e ↦ rw e refl
]

pub past-stops : (p : ℕ → Bool) (t : List ℕ) → starts p (past p t) ≡ false
past-stops p [] = refl
past-stops p (x ∷ xs) = elim (cases_Bool (p x)) [
  | inl e ↦
      let s : 1 + prefix_len p xs ≡ suc (prefix_len p xs) = omega arith in
      rw (e, s) (past-stops p xs)
  | inr e ↦ rw (e, e) refl
]

pub digit_not_blank : (b : ℕ) → is_ascii_digit b ≡ true → is_ascii_whitespace b ≡ false
digit_not_blank b d = grind (arith, nat_tests)

pub digit_not_v : (b : ℕ) → is_ascii_digit b ≡ true → is_v b ≡ false
digit_not_v b d = grind (arith, nat_tests)

pub blank_not_digit : (b : ℕ) → is_ascii_whitespace b ≡ true → is_ascii_digit b ≡ false
blank_not_digit b d = grind (arith, nat_tests)

pub blank_not_dot : (b : ℕ) → is_ascii_whitespace b ≡ true → (b == 46) ≡ false
blank_not_dot b d = grind (arith, nat_tests)

pub blank_not_bang : (b : ℕ) → is_ascii_whitespace b ≡ true → (b == 33) ≡ false
blank_not_bang b d = grind (arith, nat_tests)

pub prefix_passes : (p : ℕ → Bool) (t : List ℕ) (i : ℕ) → i < prefix_len p t → p (get_or t i 0) ≡ true
prefix_passes p [] i lt = absurd (omega (arith, lt))
prefix_passes p (x ∷ xs) zero lt = elim (cases_Bool (p x)) [
  | inl e ↦ e
  | inr e ↦ let none = rw e at lt in absurd (omega (arith, none))
]
prefix_passes p (x ∷ xs) (suc j) lt = elim (cases_Bool (p x)) [
  | inl e ↦ let more = rw e at lt in prefix_passes p xs j (omega (arith, more))
  | inr e ↦ let none = rw e at lt in absurd (omega (arith, none))
]

pub prefix_ascii : (p : ℕ → Bool) → ((b : ℕ) → p b ≡ true → b < 128) → (t : List ℕ) → 0 < prefix_len p t → get_or t (prefix_len p t - 1) 0 < 128
prefix_ascii p ascii t some = ascii _ (prefix_passes p t (prefix_len p t - 1) (omega (arith, some)))

pub blank_ascii : (b : ℕ) → is_ascii_whitespace b ≡ true → b < 128
blank_ascii b e = grind (arith, nat_tests)

pub digit_ascii : (b : ℕ) → is_ascii_digit b ≡ true → b < 128
digit_ascii b e = grind (arith, nat_tests)

pub alphanumeric_ascii : (b : ℕ) → is_ascii_alphanumeric b ≡ true → b < 128
alphanumeric_ascii b e = grind (arith, nat_tests)

-- ---- where a text may be cut

pub split_after_ascii : (bs : List ℕ) (n : ℕ) → IsUtf8 bs → n ≤ length bs → (0 < n → get_or bs (n - 1) 0 < 128) → IsCharBoundary bs n
split_after_ascii bs zero u inside ascii = IsCharBoundary-start bs u
split_after_ascii bs (suc k) u inside ascii =
    let back : suc k - 1 ≡ k = omega arith in
    let next : k + 1 ≡ suc k = omega arith in
    subst (IsCharBoundary bs) next (IsCharBoundary-after_ascii bs k u (omega (arith, inside)) (subst (λ j. get_or bs j 0 < 128) back (ascii (omega arith))))
