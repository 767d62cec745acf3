-- `>`: its range agrees with matching, and whatever the suffixes it holds all that matches.
use Rattle.std.proofs.Common.{◌≡◌, ℕ, Bool, true, false, not, ◌&&◌, ◌||◌, IsTrue, List, [], ◌∷◌, Option, Some, None, is_some, refl, sym, ap, ◌∙◌}
use mathlib.Core.Bool.{true≢false}
use Rattle.std.specs.Ordering.{ordering_then, is_lt, is_le, is_gt, is_eq}
use Rattle.std.specs.declared.cmp.Ordering.{Ordering}
use Rattle.std.specs.declared.cmp.Ordering.TheVariants as ord
use Rattle.std.specs.declared.ops.Bound.TheVariants.{Included, Excluded, Unbounded}
use Rattle.pep440_rs.proofs.Agreement.Less.{in_equal}
use Rattle.pep440_rs.proofs.Agreement.VersionOrder.{by_parts, same_base, plain, turn_le, turn_lt, only_start, both}
use Rattle.pep440_rs.proofs.Agreement.Prefix.{mapped, some_is, next_is}
use Rattle.pep440_rs.proofs.Agreement.Suffixes.{above_dev, above_post, above_max}
use Rattle.pep440_rs.specs.Agreement.{IsSuffixComparable}
use Rattle.pep440_rs.specs.Bounds.{Segments, greater, next_number}
use Rattle.pep440_rs.specs.Matching.{any_prerelease, matches}
use Rattle.pep440_rs.specs.declared.specifier.operator.Operator.TheVariants.{GreaterThan}
use Rattle.pep440_ranges.specs.RangeSegments.{contains}
use Rattle.pep440_version.specs.Key.{base_cmp, suffix_cmp, record_cmp}
use Rattle.pep440_version.specs.Record.{Record, from_parts}
use Rattle.pep440_version.specs.declared.prerelease.Prerelease.{Prerelease}

-- a version by its parts
abbrev pub parts : ℕ → List ℕ → Option Prerelease → Option ℕ → Option ℕ → Record
parts epoch release pre post dev = from_parts epoch release pre post dev []

-- ---- tables over the base B, the order X to the bound and the order Y to s

abbrev from : Record → Segments
from s = (Included s, Unbounded) ∷ []

-- from the bound on is above s
from_table : (B X Y : Ordering) (q : Bool) → (B ≡ ord.Equal → q ≡ false) → (B ≡ ord.Equal → not (is_lt (ordering_then X ord.Equal)) ≡ is_gt (ordering_then Y ord.Equal)) →
    not (is_lt (ordering_then B (ordering_then X ord.Equal))) ≡ is_gt (ordering_then B (ordering_then Y ord.Equal)) && not (is_eq B && q)
from_table ord.Less X Y q h k = refl
from_table ord.Greater X Y q h k = refl
from_table ord.Equal X Y q h k = k refl ∙ and_not (is_gt (ordering_then Y ord.Equal)) q (h refl)
  where
    and_not : (b q : Bool) → q ≡ false → b ≡ b && not q
    and_not true q e = ap not (sym e)
    and_not false q e = refl

-- above the bound is above s
past_table : (B X Y : Ordering) (q : Bool) → (B ≡ ord.Equal → is_gt (ordering_then X ord.Equal) ≡ is_gt (ordering_then Y ord.Equal) && not q) →
    is_gt (ordering_then B (ordering_then X ord.Equal)) ≡ is_gt (ordering_then B (ordering_then Y ord.Equal)) && not (is_eq B && q)
past_table ord.Less X Y q h = refl
past_table ord.Greater X Y q h = refl
past_table ord.Equal X Y q h = h refl

around_table : (B X Y : Ordering) (q : Bool) → (not (is_lt (ordering_then X ord.Equal)) ≡ is_gt (ordering_then Y ord.Equal)) →
    is_gt (ordering_then B (ordering_then Y ord.Equal)) && not (is_eq B && q) ≡ true → not (is_lt (ordering_then B (ordering_then X ord.Equal))) ≡ true
around_table ord.Less X Y q k h = h
around_table ord.Greater X Y q k h = refl
around_table ord.Equal X Y q k h = k ∙ and_left (is_gt (ordering_then Y ord.Equal)) (not q) h
  where
    and_left : (a b : Bool) → a && b ≡ true → a ≡ true
    and_left true b h = refl
    and_left false b h = h

-- ---- `>` by parts: what matching asks beside the order

abbrev late : Option ℕ → Record → Bool
late post v = (is_some v.post && not (is_some post)) || false

-- matching of `>` over the parts of the order
by_base : (s v : Record) →
    is_gt (ordering_then (base_cmp (plain v) (plain s)) (ordering_then (suffix_cmp (plain v) (plain s)) ord.Equal)) && not (is_eq (base_cmp (plain v) (plain s)) && late s.post v)
    ≡ matches GreaterThan (plain s) (plain v)
by_base s v =
    ap (λ o. is_gt o && not (is_eq (base_cmp (plain v) (plain s)) && late s.post v)) (sym (by_parts (plain v) (plain s)))
    ∙ ap (λ b. is_gt (record_cmp (plain v) (plain s)) && not (b && late s.post v)) (sym (same_base (plain s) (plain v)))

-- not below, and above, over the parts of the order
plain_from_parts : (a v : Record) → contains record_cmp (from (plain a)) (plain v) ≡ not (is_lt (ordering_then (base_cmp (plain v) (plain a)) (ordering_then (suffix_cmp (plain v) (plain a)) ord.Equal)))
plain_from_parts a v = only_start (is_le (record_cmp (plain a) (plain v))) ∙ turn_le (plain a) (plain v) ∙ ap (λ o. not (is_lt o)) (by_parts (plain v) (plain a))

above_parts : (a v : Record) →
    contains record_cmp ((Excluded (record (plain a) { max = Some 0 }), Unbounded) ∷ []) (plain v)
    ≡ is_gt (ordering_then (base_cmp (plain v) (plain a)) (ordering_then (suffix_cmp (plain v) (record (plain a) { max = Some 0 })) ord.Equal))
above_parts a v =
    only_start (is_lt (record_cmp (record (plain a) { max = Some 0 }) (plain v))) ∙ turn_lt (record (plain a) { max = Some 0 }) (plain v)
    ∙ ap is_gt (by_parts (plain v) (record (plain a) { max = Some 0 }))

-- ---- each bound agrees with matching

from_dev : (e : ℕ) (r : List ℕ) (pre : Option Prerelease) (post : Option ℕ) (d n : ℕ) (v : Record) →
    next_number d ≡ Some n → (base_cmp (plain v) (parts e r pre post (Some d)) ≡ ord.Equal → late post v ≡ false) →
    contains record_cmp (from (parts e r pre post (Some n))) (plain v) ≡ matches GreaterThan (parts e r pre post (Some d)) (plain v)
from_dev e r pre post d n v h q =
    plain_from_parts (parts e r pre post (Some n)) v
    ∙ from_table (base_cmp (plain v) (parts e r pre post (Some d))) (suffix_cmp (plain v) (parts e r pre post (Some n))) (suffix_cmp (plain v) (parts e r pre post (Some d))) _
    q (λ _. above_dev (parts e r pre post None) v d n (next_is d n h))
    ∙ by_base (parts e r pre post (Some d)) v

and_none : (p b : Bool) → p ≡ false → (p && b) || false ≡ false
and_none true b e = absurd (true≢false e)
and_none false b e = refl

never_and : (b : Bool) → (b && false) || false ≡ false
never_and true = refl
never_and false = refl

from_post : (e : ℕ) (r : List ℕ) (pre : Option Prerelease) (p n : ℕ) (v : Record) → next_number p ≡ Some n →
    contains record_cmp (from (parts e r pre (Some n) (Some 0))) (plain v) ≡ matches GreaterThan (parts e r pre (Some p) None) (plain v)
from_post e r pre p n v h =
    plain_from_parts (parts e r pre (Some n) (Some 0)) v
    ∙ from_table (base_cmp (plain v) (parts e r pre (Some p) None)) (suffix_cmp (plain v) (parts e r pre (Some n) (Some 0))) (suffix_cmp (plain v) (parts e r pre (Some p) None)) _
    (λ _. never_and (is_some v.post)) (λ _. above_post (parts e r pre None None) v p n (next_is p n h))
    ∙ by_base (parts e r pre (Some p) None) v

above_top : (e : ℕ) (r : List ℕ) (pre : Option Prerelease) (v : Record) →
    (base_cmp (plain v) (parts e r pre None None) ≡ ord.Equal → not (is_some v.post) || not (is_some pre) ≡ true) →
    contains record_cmp ((Excluded (record (parts e r pre None None) { max = Some 0 }), Unbounded) ∷ []) (plain v) ≡ matches GreaterThan (parts e r pre None None) (plain v)
above_top e r pre v q =
    above_parts (parts e r pre None None) v
    ∙ past_table (base_cmp (plain v) (parts e r pre None None)) (suffix_cmp (plain v) (record (parts e r pre None None) { max = Some 0 })) (suffix_cmp (plain v) (parts e r pre None None)) _
    (λ b. go pre (q b))
    ∙ by_base (parts e r pre None None) v
  where
    same : (p : Bool) → not p ≡ not ((p && true) || false)
    same true = refl
    same false = refl

    go : (pre : Option Prerelease) → not (is_some v.post) || not (is_some pre) ≡ true →
        is_gt (ordering_then (suffix_cmp (plain v) (record (parts e r pre None None) { max = Some 0 })) ord.Equal)
        ≡ is_gt (ordering_then (suffix_cmp (plain v) (parts e r pre None None)) ord.Equal) && not (late None v)
    go None h = above_max v.pre None v.post v.dev h ∙ both _ _ _ _ refl (same (is_some v.post))
    go (Some k) h = above_max v.pre (Some k) v.post v.dev h ∙ both _ _ _ _ refl (same (is_some v.post))

-- ---- all three

-- the test of the suffixes over the base
comparable : (s v : Record) → IsSuffixComparable GreaterThan (plain s) (plain v) → base_cmp (plain v) (plain s) ≡ ord.Equal → not (is_some v.post) || (is_some s.post || not (any_prerelease s)) ≡ true
comparable s v c b = in_equal _ _ _ (ap (λ b. not b || not (is_some v.post) || (is_some s.post || not (any_prerelease s))) (sym (same_base (plain s) (plain v))) ∙ c) b

-- a version with dev that is no post-release: v is no post-release
no_post : (v a : Bool) → not v || (false || not (a || true)) ≡ true → v ≡ false
no_post true true h = sym h
no_post true false h = sym h
no_post false a h = refl

final_pre : (v p : Bool) → not v || (false || not (p || false)) ≡ true → not v || not p ≡ true
final_pre true true h = h
final_pre true false h = refl
final_pre false p h = refl

pub greater_agrees : (e : ℕ) (r : List ℕ) (pre : Option Prerelease) (post dev : Option ℕ) (v : Record) → IsSuffixComparable GreaterThan (parts e r pre post dev) (plain v) →
    (range : Segments) → greater (parts e r pre post dev) dev post ≡ Some range → contains record_cmp range (plain v) ≡ matches GreaterThan (parts e r pre post dev) (plain v)
greater_agrees e r pre (Some p) (Some d) v c range h =
    let m = mapped _ (next_number d) range h in
    rw m.2 (from_dev e r pre (Some p) d m.0 v m.1 (λ b. never_and (is_some v.post)))
greater_agrees e r pre None (Some d) v c range h =
    let m = mapped _ (next_number d) range h in
    rw m.2 (from_dev e r pre None d m.0 v m.1 (λ b. and_none (is_some v.post) true (no_post (is_some v.post) (is_some pre) (comparable (parts e r pre None (Some d)) v c b))))
greater_agrees e r pre (Some p) None v c range h =
    let m = mapped _ (next_number p) range h in
    rw m.2 (from_post e r pre p m.0 v m.1)
greater_agrees e r pre None None v c range h =
    rw (some_is _ range h) (above_top e r pre v (λ b. final_pre (is_some v.post) (is_some pre) (comparable (parts e r pre None None) v c b)))

-- ---- whatever the suffixes, all that matches is in the range

pub greater_around : (e : ℕ) (r : List ℕ) (pre : Option Prerelease) (post dev : Option ℕ) (v : Record) →
    (range : Segments) → greater (parts e r pre post dev) dev post ≡ Some range → IsTrue (matches GreaterThan (parts e r pre post dev) (plain v)) → IsTrue (contains record_cmp range (plain v))
greater_around e r pre (Some p) (Some d) v range h =
    let m = mapped _ (next_number d) range h in
    rw m.2 (λ k. from_dev e r pre (Some p) d m.0 v m.1 (λ b. never_and (is_some v.post)) ∙ k)
greater_around e r pre (Some p) None v range h =
    let m = mapped _ (next_number p) range h in
    rw m.2 (λ k. from_post e r pre p m.0 v m.1 ∙ k)
greater_around e r pre None (Some d) v range h =
    let m = mapped _ (next_number d) range h in
    rw m.2 (λ k. plain_from_parts (parts e r pre None (Some m.0)) v
    ∙ around_table (base_cmp (plain v) (parts e r pre None (Some d))) (suffix_cmp (plain v) (parts e r pre None (Some m.0))) (suffix_cmp (plain v) (parts e r pre None (Some d))) _
    (above_dev (parts e r pre None None) v d m.0 (next_is d m.0 m.1)) (by_base (parts e r pre None (Some d)) v ∙ k))
greater_around e r pre None None v range h = rw (some_is _ range h) (λ k. go (is_some v.post) refl (by_base (parts e r pre None None) v ∙ k) ∙ k)
  where
    clash : (B : Ordering) (g : Bool) → g && not (is_eq B && ((true && true) || false)) ≡ true → B ≡ ord.Equal → ⊥
    clash ord.Equal true h e = true≢false (sym h)
    clash ord.Equal false h e = true≢false (sym h)
    clash ord.Less g h e = cc
    clash ord.Greater g h e = cc

    go : (b : Bool) → is_some v.post ≡ b →
        is_gt (ordering_then (base_cmp (plain v) (parts e r pre None None)) (ordering_then (suffix_cmp (plain v) (parts e r pre None None)) ord.Equal))
        && not (is_eq (base_cmp (plain v) (parts e r pre None None)) && ((is_some v.post && true) || false)) ≡ true →
        contains record_cmp ((Excluded (record (parts e r pre None None) { max = Some 0 }), Unbounded) ∷ []) (plain v) ≡ matches GreaterThan (parts e r pre None None) (plain v)
    go true e' k = above_top e r pre v (λ b. absurd (clash _ _ (rw e' at k) b))
    go false e' k = above_top e r pre v (λ b. rw e' refl)
