-- Strings without the blanks at their ends, and the last byte of a string.
use Rattle.std.proofs.Common.{◌≡◌, ◌<◌, ◌≤◌, ◌-◌, ◌∙◌, ℕ, suc, zero, List, [], ◌∷◌, Bool, true, false, cond, length, get_or, take, drop, refl, sym, ap, subst, arith, inl, inr}
use Rattle.std.proofs.lemmas.Bool.{cases_lt}
use Rattle.std.proofs.lemmas.List.{get_or_default, get_or_past, length-take}
use Rattle.std.proofs.lemmas.List.Folds.{list_all_at}
use Rattle.std.proofs.lemmas.List.Recursion.{and_from_places}
use Rattle.std.specs.Char.{is_ascii_whitespace}
use Rattle.std.specs.List.{list_all, prefix_len}
use Rattle.std.specs.Str.{IsTrimAscii, IsTrimAsciiStart}
use Rattle.pep440_version.specs.Reading.{past}
use Rattle.pep440_version.specs.Rejections.{ends}
use Rattle.pep440_rs.specs.Blanks.{trim_blanks, trimmed_end}

-- the run of bytes that pass ends where one fails, or the string ends
run_ends : (p : ℕ → Bool) (s : List ℕ) (n : ℕ) → n ≤ length s → ((i : ℕ) → i < n → p (get_or s i 0) ≡ true) → (n < length s → p (get_or s n 0) ≡ false) → prefix_len p s ≡ n
run_ends p [] n inside all stops = omega (arith, inside)
run_ends p (x ∷ xs) zero inside all stops = rw (stops (omega arith)) refl
run_ends p (x ∷ xs) (suc n) inside all stops =
    let first : p x ≡ true = all 0 (omega arith) in
    let later : prefix_len p xs ≡ n = run_ends p xs n (omega (arith, inside)) (λ i lt. all (suc i) (omega (arith, lt))) (λ lt. stops (omega (arith, lt))) in
    rw first (omega (arith, later))

pub start_trimmed : (s r : List ℕ) → IsTrimAsciiStart s r → r ≡ past is_ascii_whitespace s
start_trimmed s r (n, is, long, below, stops) =
    is ∙ ap (λ k. drop k s) (sym (run_ends is_ascii_whitespace s n (omega (arith, long)) below stops))

-- up to the last byte that is no blank
end_trimmed : (t : List ℕ) (n : ℕ) → n ≤ length t → ((i : ℕ) → n ≤ i → i < length t → is_ascii_whitespace (get_or t i 0) ≡ true) → (0 < n → is_ascii_whitespace (get_or t (n - 1) 0) ≡ false) → take n t ≡ trimmed_end t
end_trimmed [] zero inside blanks last = refl
end_trimmed [] (suc n) inside blanks last = refl
end_trimmed (b ∷ rest) zero inside blanks last =
    let all : list_all is_ascii_whitespace (b ∷ rest) ≡ true = and_from_places (list_all is_ascii_whitespace) is_ascii_whitespace refl (λ _ _. refl) (b ∷ rest) 0 (λ i lt. blanks i (omega arith) lt) in
    sym (ap (λ (x : Bool). cond x [] (b ∷ trimmed_end rest)) all)
end_trimmed (b ∷ rest) (suc n) inside blanks last =
    let at : suc n - 1 ≡ n = omega arith in
    let fails : is_ascii_whitespace (get_or (b ∷ rest) n 0) ≡ false = subst (λ k. is_ascii_whitespace (get_or (b ∷ rest) k 0) ≡ false) at (last (omega arith)) in
    let some : list_all is_ascii_whitespace (b ∷ rest) ≡ false = list_all_at is_ascii_whitespace (b ∷ rest) n 0 (omega (arith, inside)) fails in
    let later : take n rest ≡ trimmed_end rest = end_trimmed rest n (omega (arith, inside)) (λ i low lt. blanks (suc i) (omega (arith, low)) (omega (arith, lt))) (before n fails) in
    ap (λ l. b ∷ l) later ∙ sym (ap (λ (x : Bool). cond x [] (b ∷ trimmed_end rest)) some)
  where
    before : (n : ℕ) → is_ascii_whitespace (get_or (b ∷ rest) n 0) ≡ false → 0 < n → is_ascii_whitespace (get_or rest (n - 1) 0) ≡ false
    before zero fails some = absurd (omega (arith, some))
    before (suc k) fails some = let at : suc k - 1 ≡ k = omega arith in rw at fails

pub both_trimmed : (s r : List ℕ) → IsTrimAscii s r → r ≡ trim_blanks s
both_trimmed s r (m, is, below, stops, blanks, last) =
    let inside : m ≤ length s = elim (cases_lt (length s) m) [
      | inl past_end ↦
          let blank : is_ascii_whitespace (get_or s (length s) 0) ≡ true = below (length s) past_end in
          let none : get_or s (length s) 0 ≡ 0 = get_or_past s (length s) 0 (omega arith) in
          let never : is_ascii_whitespace 0 ≡ true = rw none at blank in
          absurd (cc never)
      | inr le ↦ le
    ] in
    let prefix : drop m s ≡ past is_ascii_whitespace s = ap (λ k. drop k s) (sym (run_ends is_ascii_whitespace s m inside below stops)) in
    let long = ap length is ∙ length-take (length r) (drop m s) in
    is ∙ end_trimmed (drop m s) (length r) (omega (arith, long)) blanks last ∙ ap trimmed_end prefix

-- the last byte decides how a string ends
ends_at : (test : ℕ → Bool) (b : ℕ) (rest : List ℕ) (n : ℕ) → n ≡ length rest → ends test (b ∷ rest) ≡ test (get_or (b ∷ rest) n 0)
ends_at test b [] n e = rw e refl
ends_at test b (c ∷ rest) n e = rw e (ends_at test c rest (length rest) refl)

pub ends_last : (test : ℕ → Bool) (t : List ℕ) (d : ℕ) → 0 < length t → ends test t ≡ test (get_or t (length t - 1) d)
ends_last test [] d some = absurd (omega (arith, some))
ends_last test (b ∷ rest) d some =
    let at : length rest ≡ suc (length rest) - 1 = omega arith in
    let inside : length rest < length (b ∷ rest) = omega arith in
    ends_at test b rest (length rest) refl ∙ ap test (get_or_default (b ∷ rest) (length rest) 0 d inside) ∙ ap (λ n. test (get_or (b ∷ rest) n d)) at
