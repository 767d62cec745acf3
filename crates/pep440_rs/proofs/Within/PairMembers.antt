-- The members of one pair of bounds, and of one gap, between releases.
use Rattle.std.proofs.Common.{◌≡◌, ◌==◌, ℕ, ◌+◌, Bool, true, false, not, ◌&&◌, ◌||◌, cond, List, [], ◌∷◌, ◌++◌, option_to_list, length, refl, sym, ap, ◌∙◌, subst, arith}
use mathlib.Core.Bool.{true≢false}
use Rattle.std.proofs.lemmas.Bool.Decides.{nat_tests}
use Rattle.std.proofs.lemmas.List.Folds.{list_all-append}
use Rattle.std.specs.Ordering.{ordering_reverse, is_lt, is_le, is_eq}
use Rattle.std.specs.declared.cmp.Ordering.{Ordering}
use Rattle.std.specs.declared.cmp.Ordering.TheVariants as ord
use Rattle.std.specs.declared.ops.Bound.{Bound}
use Rattle.std.specs.declared.ops.Bound.TheVariants.{Included, Excluded, Unbounded}
use Rattle.pep440_rs.proofs.Agreement.VersionOrder.{turn_le, both}
use Rattle.pep440_rs.proofs.Within.ReleaseMatching.{equal_is, from_matches, above_matches, up_to_matches, below_matches, star_matches}
use Rattle.pep440_rs.specs.Agreement.{IsReleaseOnly}
use Rattle.pep440_rs.specs.BoundsAgreement.{IsReleaseBound, IsReleasePair, MatchesWithin, is_known_gap}
use Rattle.pep440_rs.specs.Matching.{matches, list_matches}
use Rattle.pep440_rs.specs.Specifiers.{Spec}
use Rattle.pep440_rs.specs.Members.{spec, is_next, lower_member, upper_member, outer_members, pair_members, gap_members}
use Rattle.pep440_rs.specs.declared.specifier.operator.Operator.TheVariants.{Equal, EqualStar, NotEqual, NotEqualStar, LessThan, LessThanEqual, GreaterThan, GreaterThanEqual}
use Rattle.pep440_ranges.proofs.Places.{below, start_place, end_place, value_place, valid_is, upto_is, from_is, le_le}
use Rattle.pep440_ranges.specs.BoundOrder.{is_valid, is_from_start, is_up_to_end}
use Rattle.pep440_ranges.specs.RangeSegments.{Segment, lies_in}
use Rattle.pep440_version.specs.Key.{record_cmp}
use Rattle.pep440_version.specs.Key.KeyLaws.{record_total}
use Rattle.pep440_version.specs.Record.{Record, from_release}

and_true : (b : Bool) → b && true ≡ b
and_true true = refl
and_true false = refl

-- the two members of a list
pub append_matches : (xs ys : List Spec) (u : Record) → list_matches (xs ++ ys) u ≡ list_matches xs u && list_matches ys u
append_matches xs ys u = list_all-append (λ m. matches m.operator m.version u) xs ys

-- ---- the bounds one by one

lower_holds : (b : Bound Record) (u : Record) → IsReleaseBound b → IsReleaseOnly u → list_matches (option_to_list (lower_member b)) u ≡ is_from_start record_cmp b u
lower_holds (Included x) u p q = and_true (matches GreaterThanEqual x u) ∙ from_matches x u p q
lower_holds (Excluded x) u p q = and_true (matches GreaterThan x u) ∙ above_matches x u p q
lower_holds Unbounded u p q = refl

upper_holds : (b : Bound Record) (u : Record) → IsReleaseBound b → IsReleaseOnly u → list_matches (option_to_list (upper_member b)) u ≡ is_up_to_end record_cmp b u
upper_holds (Included x) u p q = and_true (matches LessThanEqual x u) ∙ up_to_matches x u p q
upper_holds (Excluded x) u p q = and_true (matches LessThan x u) ∙ below_matches x u p q
upper_holds Unbounded u p q = refl

outer_holds : (s e : Bound Record) (u : Record) → IsReleaseBound s → IsReleaseBound e → IsReleaseOnly u → list_matches (outer_members s e) u ≡ lies_in record_cmp (s, e) u
outer_holds s e u p q r =
    append_matches (option_to_list (lower_member s)) (option_to_list (upper_member e)) u
    ∙ both _ _ _ _ (lower_holds s u p r) (upper_holds e u q r)

-- ---- equal versions

from_equal : (b : Ordering) → is_eq b ≡ true → b ≡ ord.Equal
from_equal ord.Less h = cc
from_equal ord.Equal h = refl
from_equal ord.Greater h = cc

-- where x and y are equal, u is to y as x is to u, turned
same_back : (x y u : Record) → record_cmp x y ≡ ord.Equal → record_cmp u y ≡ ordering_reverse (record_cmp x u)
same_back x y u e = record_total.antisymm u y ∙ ap ordering_reverse (sym (record_total.congr x y u e))

equal_table : (R : Ordering) → is_eq (ordering_reverse R) && true ≡ is_le R && is_le (ordering_reverse R)
equal_table ord.Less = refl
equal_table ord.Equal = refl
equal_table ord.Greater = refl

equal_holds : (x y u : Record) → IsReleaseOnly x → IsReleaseOnly u → record_cmp x y ≡ ord.Equal → list_matches (spec Equal x ∷ []) u ≡ lies_in record_cmp (Included x, Included y) u
equal_holds x y u p q e =
    ap (λ b. b && true) (equal_is x u p q ∙ ap is_eq (record_total.antisymm u x))
    ∙ equal_table (record_cmp x u)
    ∙ ap (λ o. is_le (record_cmp x u) && is_le o) (sym (same_back x y u e))

other_table : (R : Ordering) → not (is_eq (ordering_reverse R)) ≡ is_lt (ordering_reverse R) || is_lt R
other_table ord.Less = refl
other_table ord.Equal = refl
other_table ord.Greater = refl

equal_gap : (x y u : Record) → IsReleaseOnly x → IsReleaseOnly u → record_cmp x y ≡ ord.Equal →
    list_matches (spec NotEqual x ∷ []) u ≡ is_up_to_end record_cmp (Excluded x) u || is_from_start record_cmp (Excluded y) u
equal_gap x y u p q e =
    and_true (not (matches Equal x u)) ∙ ap not (equal_is x u p q ∙ ap is_eq (record_total.antisymm u x))
    ∙ other_table (record_cmp x u)
    ∙ ap (λ o. is_lt o || is_lt (record_cmp x u)) (sym (record_total.antisymm u x))
    ∙ ap (λ o. is_lt (record_cmp u x) || is_lt o) (record_total.congr x y u e)

-- ---- two numbers, and the next

next_of : (r q : List ℕ) → is_next r q ≡ true → (a : ℕ) × (b : ℕ) × (r ≡ a ∷ b ∷ []) × (q ≡ a ∷ (b + 1) ∷ [])
next_of [] q h = absurd (true≢false (sym h))
next_of (a ∷ []) q h = absurd (true≢false (sym h))
next_of (a ∷ b ∷ c ∷ r) q h = absurd (true≢false (sym h))
next_of (a ∷ b ∷ []) [] h = absurd (true≢false (sym h))
next_of (a ∷ b ∷ []) (d ∷ []) h = absurd (true≢false (sym h))
next_of (a ∷ b ∷ []) (d ∷ c ∷ e ∷ q) h = absurd (true≢false (sym h))
next_of (a ∷ b ∷ []) (d ∷ c ∷ []) h = (a, b, refl, λ i. first d a c b h i ∷ second d a c b h i ∷ [])
  where
    first : (d a c b : ℕ) → (d == a) && (c == b + 1) ≡ true → d ≡ a
    first d a c b h = grind (arith, nat_tests)

    second : (d a c b : ℕ) → (d == a) && (c == b + 1) ≡ true → c ≡ b + 1
    second d a c b h = grind (arith, nat_tests)

-- what holds of a star of two numbers holds of x, which y is next to
star_of : (P : Record → Record → Type 0) → ((a b : ℕ) → P (from_release (a ∷ b ∷ [])) (from_release (a ∷ (b + 1) ∷ []))) →
    (x y : Record) → IsReleaseOnly x → IsReleaseOnly y → is_next x.release y.release ≡ true → P x y
star_of P h x y p q e =
    let n = next_of x.release y.release e in
    subst (λ t. P t y) (sym (p ∙ ap from_release n.2)) (subst (P (from_release (n.0 ∷ n.1 ∷ []))) (sym (q ∙ ap from_release n.3)) (h n.0 n.1))

next_holds : (x y u : Record) → IsReleaseOnly x → IsReleaseOnly y → IsReleaseOnly u → is_next x.release y.release ≡ true →
    list_matches (spec EqualStar x ∷ []) u ≡ lies_in record_cmp (Included x, Excluded y) u
next_holds x y u p q r e =
    star_of (λ x y. list_matches (spec EqualStar x ∷ []) u ≡ lies_in record_cmp (Included x, Excluded y) u)
    (λ a b. and_true (matches EqualStar (from_release (a ∷ b ∷ [])) u) ∙ star_matches a b u r) x y p q e

next_table : (a b : Bool) → not (not a && b) ≡ a || not b
next_table true b = refl
next_table false b = refl

next_gap : (x y u : Record) → IsReleaseOnly x → IsReleaseOnly y → IsReleaseOnly u → is_next x.release y.release ≡ true →
    list_matches (spec NotEqualStar x ∷ []) u ≡ is_up_to_end record_cmp (Excluded x) u || is_from_start record_cmp (Included y) u
next_gap x y u p q r e =
    star_of (λ x y. list_matches (spec NotEqualStar x ∷ []) u ≡ is_up_to_end record_cmp (Excluded x) u || is_from_start record_cmp (Included y) u)
    (λ a b.
    let x = from_release (a ∷ b ∷ []) in
    let y = from_release (a ∷ (b + 1) ∷ []) in
    and_true (not (matches EqualStar x u)) ∙ ap not (star_matches a b u r)
    ∙ ap (λ c. not (c && is_lt (record_cmp u y))) (turn_le x u)
    ∙ next_table (is_lt (record_cmp u x)) (is_lt (record_cmp u y))
    ∙ ap (λ c. is_lt (record_cmp u x) || c) (sym (turn_le y u))) x y p q e

-- ---- one pair

pair_holds : (s e : Bound Record) (u : Record) → IsReleaseBound s → IsReleaseBound e → IsReleaseOnly u → list_matches (pair_members s e) u ≡ lies_in record_cmp (s, e) u
pair_holds (Included x) (Included y) u p q r = go (is_eq (record_cmp x y)) refl
  where
    go : (b : Bool) → is_eq (record_cmp x y) ≡ b → list_matches (cond b (spec Equal x ∷ []) (outer_members (Included x) (Included y))) u ≡ lies_in record_cmp (Included x, Included y) u
    go true e = equal_holds x y u p r (from_equal (record_cmp x y) e)
    go false e = outer_holds (Included x) (Included y) u p q r
pair_holds (Included x) (Excluded y) u p q r = go (is_next x.release y.release) refl
  where
    go : (b : Bool) → is_next x.release y.release ≡ b → list_matches (cond b (spec EqualStar x ∷ []) (outer_members (Included x) (Excluded y))) u ≡ lies_in record_cmp (Included x, Excluded y) u
    go true e = next_holds x y u p q r e
    go false e = outer_holds (Included x) (Excluded y) u p q r
pair_holds (Included x) Unbounded u p q r = outer_holds (Included x) Unbounded u p q r
pair_holds (Excluded x) (Included y) u p q r = outer_holds (Excluded x) (Included y) u p q r
pair_holds (Excluded x) (Excluded y) u p q r = outer_holds (Excluded x) (Excluded y) u p q r
pair_holds (Excluded x) Unbounded u p q r = outer_holds (Excluded x) Unbounded u p q r
pair_holds Unbounded (Included y) u p q r = outer_holds Unbounded (Included y) u p q r
pair_holds Unbounded (Excluded y) u p q r = outer_holds Unbounded (Excluded y) u p q r
pair_holds Unbounded Unbounded u p q r = outer_holds Unbounded Unbounded u p q r

pub pair_agrees : (p : Segment Record) → IsReleasePair p → MatchesWithin p (pair_members p.0 p.1)
pair_agrees p k u q = pair_holds p.0 p.1 u k.0 k.1 q

-- ---- one gap

-- u isn't in the gap
abbrev pub is_outside : Bound Record → Bound Record → Record → Bool
is_outside e b u = is_up_to_end record_cmp e u || is_from_start record_cmp b u

-- what isn't in the gap isn't excluded
pub gap_holds : (e b : Bound Record) (u : Record) → IsReleaseBound e → IsReleaseBound b → IsReleaseOnly u → is_outside e b u ≡ true → list_matches (gap_members e b) u ≡ true
gap_holds (Excluded x) (Excluded y) u p q r h = go (is_eq (record_cmp x y)) refl
  where
    go : (c : Bool) → is_eq (record_cmp x y) ≡ c → list_matches (cond c (spec NotEqual x ∷ []) []) u ≡ true
    go true e = equal_gap x y u p r (from_equal (record_cmp x y) e) ∙ h
    go false e = refl
gap_holds (Excluded x) (Included y) u p q r h = go (is_next x.release y.release) refl
  where
    go : (c : Bool) → is_next x.release y.release ≡ c → list_matches (cond c (spec NotEqualStar x ∷ []) []) u ≡ true
    go true e = next_gap x y u p q r e ∙ h
    go false e = refl
gap_holds (Excluded x) Unbounded u p q r h = refl
gap_holds (Included x) (Included y) u p q r h = refl
gap_holds (Included x) (Excluded y) u p q r h = refl
gap_holds (Included x) Unbounded u p q r h = refl
gap_holds Unbounded (Included y) u p q r h = refl
gap_holds Unbounded (Excluded y) u p q r h = refl
gap_holds Unbounded Unbounded u p q r h = refl

-- nothing is in an empty gap, by places
empty_gap : (e b : Bound Record) (u : Record) → below record_cmp (end_place e) (start_place b) ≡ false → is_outside e b u ≡ true
empty_gap e b u h = go (is_up_to_end record_cmp e u) refl
  where
    go : (c : Bool) → is_up_to_end record_cmp e u ≡ c → c || is_from_start record_cmp b u ≡ true
    go true k = refl
    go false k =
        from_is record_total b u
        ∙ ap not (le_le record_total (start_place b) (end_place e) (value_place u) h (sym (upto_is record_cmp e u) ∙ k))

-- a gap with no member is known only if it is empty
by_empty : (g : Bool) → not g || false ≡ true → g ≡ false
by_empty true h = sym h
by_empty false h = refl

pub gap_only : (e b : Bound Record) (u : Record) → IsReleaseBound e → IsReleaseBound b → IsReleaseOnly u → is_known_gap e b ≡ true → list_matches (gap_members e b) u ≡ true → is_outside e b u ≡ true
gap_only (Excluded x) (Excluded y) u p q r k h = go (is_eq (record_cmp x y)) refl k h
  where
    go : (c : Bool) → is_eq (record_cmp x y) ≡ c →
        not (is_valid record_cmp (Included x) (Included y)) || not (length {A = Spec} (cond c (spec NotEqual x ∷ []) []) == 0) ≡ true →
        list_matches (cond c (spec NotEqual x ∷ []) []) u ≡ true → is_outside (Excluded x) (Excluded y) u ≡ true
    go true e k h = sym (equal_gap x y u p r (from_equal (record_cmp x y) e)) ∙ h
    go false e k h = empty_gap (Excluded x) (Excluded y) u (sym (valid_is record_cmp (Included x) (Included y)) ∙ by_empty _ k)
gap_only (Excluded x) (Included y) u p q r k h = go (is_next x.release y.release) refl k h
  where
    go : (c : Bool) → is_next x.release y.release ≡ c →
        not (is_valid record_cmp (Included x) (Excluded y)) || not (length {A = Spec} (cond c (spec NotEqualStar x ∷ []) []) == 0) ≡ true →
        list_matches (cond c (spec NotEqualStar x ∷ []) []) u ≡ true → is_outside (Excluded x) (Included y) u ≡ true
    go true e k h = sym (next_gap x y u p q r e) ∙ h
    go false e k h = empty_gap (Excluded x) (Included y) u (sym (valid_is record_cmp (Included x) (Excluded y)) ∙ by_empty _ k)
gap_only (Included x) (Included y) u p q r k h = empty_gap (Included x) (Included y) u (sym (valid_is record_cmp (Excluded x) (Excluded y)) ∙ by_empty _ k)
gap_only (Included x) (Excluded y) u p q r k h = empty_gap (Included x) (Excluded y) u (sym (valid_is record_cmp (Excluded x) (Included y)) ∙ by_empty _ k)
gap_only (Excluded x) Unbounded u p q r k h = any_or _
  where
    any_or : (c : Bool) → c || true ≡ true
    any_or true = refl
    any_or false = refl
gap_only (Included x) Unbounded u p q r k h = any_or _
  where
    any_or : (c : Bool) → c || true ≡ true
    any_or true = refl
    any_or false = refl
gap_only Unbounded (Included y) u p q r k h = refl
gap_only Unbounded (Excluded y) u p q r k h = refl
gap_only Unbounded Unbounded u p q r k h = refl
