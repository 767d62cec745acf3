-- A bound as a place in one order: below every value, just before or just after one, or above all.
-- Each test of two bounds asks whether one place is below another.
use Rattle.std.proofs.Common.{◌≡◌, ℕ, Bool, true, false, not, Option, Some, None, refl, sym, ap, ◌∙◌}
use Rattle.std.specs.declared.cmp.Ordering.{Ordering}
use Rattle.std.specs.declared.cmp.Ordering.TheVariants.{Less, Equal, Greater}
use Rattle.std.specs.declared.ops.Bound.{Bound}
use Rattle.std.specs.declared.ops.Bound.TheVariants.{Included, Excluded, Unbounded}
use Rattle.std.specs.Option.{option_cmp}
use Rattle.std.specs.Cmp.{IsTotalOrder}
use Rattle.std.specs.Cmp.Lexicographic.{options_total}
use Rattle.std.specs.Ordering.{is_lt, is_le, is_gt, nat_cmp, ordering_then, ordering_reverse, on, then_cmp}
use Rattle.std.proofs.lemmas.Cmp.{upto, on_total, then_total, nat_cmp_total}
use Rattle.pep440_ranges.specs.BoundOrder.{is_valid, is_apart, starts_before, ends_before, is_from_start, is_up_to_end}

abbrev pub Place : Type 0 → Type 0
Place V = ℕ × Option V × ℕ

abbrev pub start_place : {V : Type 0} → Bound V → Place V
start_place Unbounded = (1, None, 0)
start_place (Included x) = (2, Some x, 0)
start_place (Excluded x) = (2, Some x, 1)

abbrev pub end_place : {V : Type 0} → Bound V → Place V
end_place (Excluded x) = (2, Some x, 0)
end_place (Included x) = (2, Some x, 1)
end_place Unbounded = (3, None, 0)

abbrev pub value_place : {V : Type 0} → V → Place V
value_place v = (2, Some v, 0)

abbrev pub rank_cmp : {V : Type 0} → (V → V → Ordering) → Place V → Place V → Ordering
rank_cmp cmp = then_cmp (on (λ p. p.0) nat_cmp) (then_cmp (on (λ p. p.1) (option_cmp cmp)) (on (λ p. p.2) nat_cmp))

-- p is below q
abbrev pub below : {V : Type 0} → (V → V → Ordering) → Place V → Place V → Bool
below cmp p q = is_lt (rank_cmp cmp p q)

-- ---- how a second comparison decides where the first answers Equal

then_Less : (r : Ordering) → is_le r ≡ is_lt (ordering_then r Less)
then_Less Less = refl
then_Less Equal = refl
then_Less Greater = refl

then_Equal : (r : Ordering) → is_lt r ≡ is_lt (ordering_then r Equal)
then_Equal Less = refl
then_Equal Equal = refl
then_Equal Greater = refl

then_Greater : (r : Ordering) → is_lt r ≡ is_lt (ordering_then r Greater)
then_Greater Less = refl
then_Greater Equal = refl
then_Greater Greater = refl

le_back : (r : Ordering) → is_le (ordering_reverse r) ≡ not (is_lt (ordering_then r Equal))
le_back Less = refl
le_back Equal = refl
le_back Greater = refl

lt_back : (r : Ordering) → is_lt (ordering_reverse r) ≡ not (is_lt (ordering_then r Less))
lt_back Less = refl
lt_back Equal = refl
lt_back Greater = refl

lt_gt : (r : Ordering) → is_lt (ordering_reverse r) ≡ is_gt r
lt_gt Less = refl
lt_gt Equal = refl
lt_gt Greater = refl

lt_not_gt : (r : Ordering) → is_lt r ≡ true → is_gt r ≡ false
lt_not_gt Less e = refl
lt_not_gt Equal e = refl
lt_not_gt Greater e = sym e

module _ {V : Type 0} (cmp : V → V → Ordering) where
  pub valid_is : (s e : Bound V) → is_valid cmp s e ≡ below cmp (start_place s) (end_place e)
  valid_is Unbounded Unbounded = refl
  valid_is Unbounded (Included y) = refl
  valid_is Unbounded (Excluded y) = refl
  valid_is (Included x) Unbounded = refl
  valid_is (Excluded x) Unbounded = refl
  valid_is (Included x) (Included y) = then_Less (cmp x y)
  valid_is (Included x) (Excluded y) = then_Equal (cmp x y)
  valid_is (Excluded x) (Included y) = then_Equal (cmp x y)
  valid_is (Excluded x) (Excluded y) = then_Greater (cmp x y)

  pub apart_is : (e s : Bound V) → is_apart cmp e s ≡ below cmp (end_place e) (start_place s)
  apart_is Unbounded Unbounded = refl
  apart_is Unbounded (Included y) = refl
  apart_is Unbounded (Excluded y) = refl
  apart_is (Included x) Unbounded = refl
  apart_is (Excluded x) Unbounded = refl
  apart_is (Included x) (Included y) = then_Greater (cmp x y)
  apart_is (Included x) (Excluded y) = then_Equal (cmp x y)
  apart_is (Excluded x) (Included y) = then_Equal (cmp x y)
  apart_is (Excluded x) (Excluded y) = then_Less (cmp x y)

  pub starts_is : (a b : Bound V) → starts_before cmp a b ≡ below cmp (start_place a) (start_place b)
  starts_is Unbounded Unbounded = refl
  starts_is (Included x) Unbounded = refl
  starts_is (Excluded x) Unbounded = refl
  starts_is Unbounded (Included y) = refl
  starts_is Unbounded (Excluded y) = refl
  starts_is (Included x) (Included y) = then_Equal (cmp x y)
  starts_is (Included x) (Excluded y) = then_Less (cmp x y)
  starts_is (Excluded x) (Included y) = then_Greater (cmp x y)
  starts_is (Excluded x) (Excluded y) = then_Equal (cmp x y)

  pub ends_is : (a b : Bound V) → ends_before cmp a b ≡ below cmp (end_place a) (end_place b)
  ends_is Unbounded Unbounded = refl
  ends_is Unbounded (Included y) = refl
  ends_is Unbounded (Excluded y) = refl
  ends_is (Included x) Unbounded = refl
  ends_is (Excluded x) Unbounded = refl
  ends_is (Included x) (Included y) = then_Equal (cmp x y)
  ends_is (Included x) (Excluded y) = then_Greater (cmp x y)
  ends_is (Excluded x) (Included y) = then_Less (cmp x y)
  ends_is (Excluded x) (Excluded y) = then_Equal (cmp x y)

  pub upto_is : (e : Bound V) (v : V) → is_up_to_end cmp e v ≡ below cmp (value_place v) (end_place e)
  upto_is Unbounded v = refl
  upto_is (Included x) v = then_Less (cmp v x)
  upto_is (Excluded x) v = then_Equal (cmp v x)

module _ {V : Type 0} {cmp : V → V → Ordering} (o : IsTotalOrder cmp) where
  pub from_is : (s : Bound V) (v : V) → is_from_start cmp s v ≡ not (below cmp (value_place v) (start_place s))
  from_is Unbounded v = refl
  from_is (Included x) v = ap is_le (o.antisymm x v) ∙ le_back (cmp v x)
  from_is (Excluded x) v = ap is_lt (o.antisymm x v) ∙ lt_back (cmp v x)

  -- ---- the places are in one order

  pub rank_total : IsTotalOrder (rank_cmp cmp)
  rank_total = then_total (on_total (λ p. p.0) nat_cmp_total) (then_total (on_total (λ p. p.1) (options_total o)) (on_total (λ p. p.2) nat_cmp_total))

  below_gt : (p q : Place V) → below cmp p q ≡ is_gt (rank_cmp cmp q p)
  below_gt p q = ap is_lt (rank_total.antisymm p q) ∙ lt_gt (rank_cmp cmp q p)

  pub asym : (p q : Place V) → below cmp p q ≡ true → below cmp q p ≡ false
  asym p q h = below_gt q p ∙ lt_not_gt (rank_cmp cmp p q) h

  -- p ≤ q and q ≤ r
  pub le_le : (p q r : Place V) → below cmp q p ≡ false → below cmp r q ≡ false → below cmp r p ≡ false
  le_le p q r h k = below_gt r p ∙ upto rank_total p q r (sym (below_gt q p) ∙ h) (sym (below_gt r q) ∙ k)

  by_test : (b : Bool) → (b ≡ false → true ≡ false) → b ≡ true
  by_test true h = refl
  by_test false h = sym (h refl)

  -- p ≤ q and q < r
  pub le_lt : (p q r : Place V) → below cmp q p ≡ false → below cmp q r ≡ true → below cmp p r ≡ true
  le_lt p q r h k = by_test (below cmp p r) (λ e. sym k ∙ le_le r p q e h)

  -- p < q and q ≤ r
  pub lt_le : (p q r : Place V) → below cmp p q ≡ true → below cmp r q ≡ false → below cmp p r ≡ true
  lt_le p q r h k = by_test (below cmp p r) (λ e. sym h ∙ le_le q r p k e)

  pub lt_lt : (p q r : Place V) → below cmp p q ≡ true → below cmp q r ≡ true → below cmp p r ≡ true
  lt_lt p q r h k = lt_le p q r h (asym q r k)
