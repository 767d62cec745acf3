-- A padded release begins with a prefix exactly if it lies from the prefix on and below the raised one.
use Rattle.std.proofs.Common.{◌≡◌, ℕ, ◌+◌, Bool, true, false, not, ◌&&◌, ◌==◌, List, [], ◌∷◌, Option, Some, None, refl, sym, ap, ◌∙◌, arith, option_map, cond}
use mathlib.Core.Bool.{true≢false}
use Rattle.std.proofs.lemmas.Bool.Decides.{nat_tests}
use Rattle.std.specs.Ordering.{nat_cmp, ordering_then, is_lt}
use Rattle.std.specs.declared.cmp.Ordering.{Ordering}
use Rattle.std.specs.declared.cmp.Ordering.TheVariants as ord
use Rattle.pep440_rs.specs.Bounds.{raise_last, next_number}
use Rattle.pep440_rs.specs.Matching.{begins_with, without_last}
use Rattle.pep440_version.specs.Key.{release_cmp}

-- ---- numbers raised

pub mapped : {A B : Type 0} (f : A → B) (o : Option A) (b : B) → option_map f o ≡ Some b → (a : A) × (o ≡ Some a) × (b ≡ f a)
mapped f None b e = cc
mapped f (Some a) b e = (a, refl, cc)

pub some_is : {A : Type 0} (a b : A) → Some a ≡ Some b → b ≡ a
some_is a b e = cc

pub next_is : (n m : ℕ) → next_number n ≡ Some m → m ≡ n + 1
next_is n m e = go (n == 18446744073709551615) e
  where
    go : (b : Bool) → cond b None (Some (n + 1)) ≡ Some m → m ≡ n + 1
    go true e = cc
    go false e = cc

-- raised is the release with its last number raised
abbrev pub IsRaised : List ℕ → List ℕ → Type 0
IsRaised [] raised = ⊥
IsRaised (x ∷ []) raised = raised ≡ (x + 1) ∷ []
IsRaised (x ∷ y ∷ ys) raised = (rest : List ℕ) × IsRaised (y ∷ ys) rest × (raised ≡ x ∷ rest)

pub raised_is : (ps qs : List ℕ) → raise_last ps ≡ Some qs → IsRaised ps qs
raised_is [] qs e = cc
raised_is (x ∷ []) qs e = let m = mapped (λ n. n ∷ []) (next_number x) qs e in m.2 ∙ ap (λ n. n ∷ []) (next_is x m.0 m.1)
raised_is (x ∷ y ∷ ys) qs e = let m = mapped (λ rest. x ∷ rest) (raise_last (y ∷ ys)) qs e in (m.0, raised_is (y ∷ ys) m.0 m.1, m.2)

-- ---- prefixes

step_last : (y x : ℕ) (t : Ordering) → is_lt t ≡ false → not (is_lt (ordering_then (nat_cmp y x) t)) && is_lt (ordering_then (nat_cmp y (x + 1)) t) ≡ (y == x)
step_last y x t h = grind (arith, nat_tests)

pub step_more : (y x : ℕ) (t u : Ordering) → not (is_lt (ordering_then (nat_cmp y x) t)) && is_lt (ordering_then (nat_cmp y x) u) ≡ (y == x) && (not (is_lt t) && is_lt u)
step_more y x t u = grind (arith, nat_tests)

-- nothing is below the empty release
never_less : (ys : List ℕ) → is_lt (release_cmp ys []) ≡ false
never_less [] = refl
never_less (y ∷ ys) = go (release_cmp ys []) (never_less ys)
  where
    go : (t : Ordering) → is_lt t ≡ false → is_lt (ordering_then (nat_cmp y 0) t) ≡ false
    go t h = grind (arith, nat_tests)

and_true : (b : Bool) → b ≡ b && true
and_true true = refl
and_true false = refl

-- from the prefix on, and below the raised one
pub prefix_bounds : (ps qs rs : List ℕ) → IsRaised ps qs → not (is_lt (release_cmp rs ps)) && is_lt (release_cmp rs qs) ≡ begins_with rs ps
prefix_bounds [] qs rs e = absurd e
prefix_bounds (x ∷ []) qs [] e = rw e (step_last 0 x ord.Equal refl ∙ and_true (0 == x))
prefix_bounds (x ∷ []) qs (r ∷ rs) e = rw e (step_last r x (release_cmp rs []) (never_less rs) ∙ and_true (r == x))
prefix_bounds (x ∷ y ∷ ys) qs [] e =
    rw e.2 (step_more 0 x (release_cmp [] (y ∷ ys)) (release_cmp [] e.0) ∙ ap (λ b. (0 == x) && b) (prefix_bounds (y ∷ ys) e.0 [] e.1))
prefix_bounds (x ∷ y ∷ ys) qs (r ∷ rs) e =
    rw e.2 (step_more r x (release_cmp rs (y ∷ ys)) (release_cmp rs e.0) ∙ ap (λ b. (r == x) && b) (prefix_bounds (y ∷ ys) e.0 rs e.1))

one_prefix : (o t u : Ordering) → (is_lt t ≡ true → is_lt u ≡ true) → is_lt (ordering_then o t) ≡ true → is_lt (ordering_then o u) ≡ true
one_prefix ord.Less t u k h = refl
one_prefix ord.Equal t u k h = k h
one_prefix ord.Greater t u k h = h

-- what is below a beginning is below the whole
pub below_prefix : (xs ys : List ℕ) → is_lt (release_cmp xs (without_last ys)) ≡ true → is_lt (release_cmp xs ys) ≡ true
below_prefix xs [] h = h
below_prefix xs (y ∷ []) h = absurd (true≢false (sym h ∙ never_less xs))
below_prefix [] (y ∷ z ∷ ys) h = one_prefix (nat_cmp 0 y) _ _ (below_prefix [] (z ∷ ys)) h
below_prefix (x ∷ xs) (y ∷ z ∷ ys) h = one_prefix (nat_cmp x y) _ _ (below_prefix xs (z ∷ ys)) h
