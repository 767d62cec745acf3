-- A conversion is refused exactly where the number that it raises is the greatest there is.
use Rattle.std.proofs.Common.{◌≡◌, ◌↔◌, ℕ, ◌+◌, ◌≤◌, ◌==◌, Bool, true, false, cond, List, [], ◌∷◌, length, Option, Some, None, option_map, refl, ap, arith}
use Rattle.std.proofs.lemmas.Bool.Decides.{nat_tests}
use Rattle.std.specs.List.{last_or}
use Rattle.std.specs.Option.{option_or}
use Rattle.pep440_rs.specs.Bounds.{range_of, release_range_of, release_up_to, greater, star, star_end, next_number, raise_last}
use Rattle.pep440_rs.specs.Matching.{without_last}
use Rattle.pep440_rs.specs.RaisedNumbers.{raised_number, raised_release_number, FailsAtMax}
use Rattle.pep440_rs.specs.declared.specifier.operator.Operator.{Operator}
use Rattle.pep440_rs.specs.declared.specifier.operator.Operator.TheVariants.{Equal, EqualStar, ExactEqual, NotEqual, NotEqualStar, TildeEqual, LessThan, LessThanEqual, GreaterThan, GreaterThanEqual}
use Rattle.pep440_version.specs.Record.{Record}
use Rattle.pep440_version.specs.declared.prerelease.Prerelease.{Prerelease}

abbrev IsMax : Option ℕ → Type 0
IsMax number = number ≡ Some 18446744073709551615

abbrev IsNone : {A : Type 0} → Option A → Type 0
IsNone o = o ≡ None

some_none : {A : Type 0} (x : A) → Some x ≡ None → ⊥
some_none x h = cc

none_some : (n : ℕ) → (let o : Option ℕ = None in o) ≡ Some n → ⊥
none_some n h = cc

-- nothing is raised, and nothing refused
never : {A : Type 0} (x : A) → IsNone (Some x) ↔ IsMax None
never x = (λ h. absurd (some_none x h), λ h. absurd (none_some 18446744073709551615 h))

chain : {A B C : Type 0} → A ↔ B → B ↔ C → A ↔ C
chain p q = (λ a. q.0 (p.0 a), λ c. p.1 (q.1 c))

through : {A B : Type 0} (f : A → B) (o : Option A) → IsNone (option_map f o) ↔ IsNone o
through f None = (λ h. refl, λ h. refl)
through f (Some a) = (λ h. absurd (some_none (f a) h), λ h. absurd (some_none a h))

next_refused : (n : ℕ) → IsNone (next_number n) ↔ IsMax (Some n)
next_refused n = go (n == 18446744073709551615) refl
  where
    is_max : (n : ℕ) → (n == 18446744073709551615) ≡ true → n ≡ 18446744073709551615
    is_max n e = grind (arith, nat_tests)

    not_max : (n : ℕ) → (n == 18446744073709551615) ≡ false → n ≡ 18446744073709551615 → ⊥
    not_max n e h = grind (arith, nat_tests)

    inside : (m : ℕ) → Some n ≡ Some m → n ≡ m
    inside m h = cc

    go : (b : Bool) → (n == 18446744073709551615) ≡ b → IsNone (cond b None (Some (n + 1))) ↔ IsMax (Some n)
    go true e = (λ h. ap Some (is_max n e), λ h. refl)
    go false e = (λ h. absurd (some_none (n + 1) h), λ h. absurd (not_max n e (inside 18446744073709551615 h)))

raised_refused : (xs : List ℕ) → 1 ≤ length xs → IsNone (raise_last xs) ↔ IsMax (last_or None xs)
raised_refused [] p = absurd (omega (arith, p))
raised_refused (x ∷ []) p = chain (through (λ n. n ∷ []) (next_number x)) (next_refused x)
raised_refused (x ∷ y ∷ ys) p = chain (through (λ rest. x ∷ rest) (raise_last (y ∷ ys))) (raised_refused (y ∷ ys) (omega arith))

some_left : (xs : List ℕ) → 2 ≤ length xs → 1 ≤ length (without_last xs)
some_left [] p = absurd (omega (arith, p))
some_left (x ∷ []) p = absurd (omega (arith, p))
some_left (x ∷ y ∷ ys) p = omega arith

greater_refused : (s : Record) (dev post : Option ℕ) → IsNone (greater s dev post) ↔ IsMax (option_or dev post)
greater_refused s (Some d) post = chain (through _ (next_number d)) (next_refused d)
greater_refused s None (Some p) = chain (through _ (next_number p)) (next_refused p)
greater_refused s None None = never _

abbrev raised_by : Option ℕ → Option Prerelease → List ℕ → Option ℕ
raised_by post pre release = option_or post (option_or (option_map (λ p. p.number) pre) (last_or None release))

end_refused : (s : Record) (post : Option ℕ) (pre : Option Prerelease) → 1 ≤ length s.release → IsNone (star_end s post pre) ↔ IsMax (raised_by post pre s.release)
end_refused s (Some p) pre h = chain (through _ (next_number p)) (next_refused p)
end_refused s None (Some k) h = chain (through _ (next_number k.number)) (next_refused k.number)
end_refused s None None h = chain (through _ (raise_last s.release)) (raised_refused s.release h)

star_refused : (s : Record) → 1 ≤ length s.release → IsNone (star s) ↔ IsMax (raised_by s.post s.pre s.release)
star_refused s h = chain (through _ (star_end s s.post s.pre)) (end_refused s s.post s.pre h)

pub refused_at_max : FailsAtMax range_of raised_number
refused_at_max s valid = at s.operator s.version (omega (arith, valid.0)) (λ e. let two = valid.1 e in omega (arith, two))
  where
    at : (o : Operator) (r : Record) → 1 ≤ length r.release → (o ≡ TildeEqual → 2 ≤ length r.release) → IsNone (range_of o r) ↔ IsMax (raised_number o r)
    at Equal r one two = never _
    at ExactEqual r one two = never _
    at NotEqual r one two = never _
    at GreaterThanEqual r one two = never _
    at LessThanEqual r one two = never _
    at TildeEqual r one two =
        chain (chain (through _ _) (through _ (raise_last (without_last r.release)))) (raised_refused (without_last r.release) (some_left r.release (two refl)))
    at LessThan r one two = never _
    at GreaterThan r one two = greater_refused r r.dev r.post
    at EqualStar r one two = star_refused r one
    at NotEqualStar r one two = chain (through _ (star r)) (star_refused r one)

up_to_refused : (release numbers : List ℕ) → 1 ≤ length numbers → IsNone (release_up_to release numbers) ↔ IsMax (last_or None numbers)
up_to_refused release numbers h = chain (through _ (raise_last numbers)) (raised_refused numbers h)

pub release_refused_at_max : FailsAtMax release_range_of raised_release_number
release_refused_at_max s valid = at s.operator s.version (omega (arith, valid.0)) (λ e. let two = valid.1 e in omega (arith, two))
  where
    at : (o : Operator) (r : Record) → 1 ≤ length r.release → (o ≡ TildeEqual → 2 ≤ length r.release) → IsNone (release_range_of o r) ↔ IsMax (raised_release_number o r)
    at Equal r one two = never _
    at ExactEqual r one two = never _
    at NotEqual r one two = never _
    at GreaterThanEqual r one two = never _
    at LessThanEqual r one two = never _
    at TildeEqual r one two = up_to_refused r.release (without_last r.release) (some_left r.release (two refl))
    at LessThan r one two = never _
    at GreaterThan r one two = never _
    at EqualStar r one two = up_to_refused r.release r.release one
    at NotEqualStar r one two = chain (through _ (release_up_to r.release r.release)) (up_to_refused r.release r.release one)
