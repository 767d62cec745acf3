-- `==` star and `~=`: what lies between first developmental releases has the prefix.
use Rattle.std.proofs.Common.{◌≡◌, ℕ, ◌==◌, Bool, true, false, not, ◌&&◌, List, [], Some, None, option_map, refl, sym, ap, ◌∙◌}
use mathlib.Core.Bool.{true≢false}
use Rattle.std.specs.Ordering.{nat_cmp, ordering_then, is_lt, is_ge}
use Rattle.std.specs.declared.cmp.Ordering.{Ordering}
use Rattle.std.specs.declared.cmp.Ordering.TheVariants as ord
use Rattle.std.specs.declared.ops.Bound.TheVariants.{Included, Excluded}
use Rattle.pep440_rs.proofs.Agreement.VersionOrder.{by_parts, plain, turn_le, ge_not_lt, both}
use Rattle.pep440_rs.proofs.Agreement.Prefix.{mapped, IsRaised, raised_is, prefix_bounds, step_more, below_prefix}
use Rattle.pep440_rs.proofs.Agreement.Suffixes.{from_dev}
use Rattle.pep440_rs.specs.Bounds.{Segments, raise_last, range_of, compatible_end, star, star_end}
use Rattle.pep440_rs.specs.Matching.{matches, begins_with, has_prefix, without_last}
use Rattle.pep440_rs.specs.declared.specifier.operator.Operator.TheVariants.{TildeEqual}
use Rattle.pep440_ranges.proofs.Laws.{one_segment_holds_between, one_segment_is_range, gaps_hold_the_rest}
use Rattle.pep440_ranges.specs.Complement.{gaps}
use Rattle.pep440_ranges.specs.RangeSegments.{contains}
use Rattle.pep440_version.specs.Key.{suffix_cmp, record_cmp, release_cmp}
use Rattle.pep440_version.specs.Key.KeyLaws.{record_total}
use Rattle.pep440_version.specs.Record.{Record, from_parts, epoch_and_release}

pub lt_base : (B S : Ordering) → is_lt S ≡ false → is_lt (ordering_then B (ordering_then S ord.Equal)) ≡ is_lt B
lt_base ord.Less S h = refl
lt_base ord.Greater S h = refl
lt_base ord.Equal ord.Less h = h
lt_base ord.Equal ord.Equal h = refl
lt_base ord.Equal ord.Greater h = refl

abbrev pub first_dev : ℕ → List ℕ → Record
first_dev epoch release = from_parts epoch release None None (Some 0) []

-- below a release's first dev release is what is below by the release alone
pub below_first_dev : (e : ℕ) (r : List ℕ) (v : Record) → is_lt (record_cmp (plain v) (first_dev e r)) ≡ is_lt (ordering_then (nat_cmp v.epoch e) (release_cmp v.release r))
below_first_dev e r v =
    ap is_lt (by_parts (plain v) (first_dev e r))
    ∙ lt_base (ordering_then (nat_cmp v.epoch e) (release_cmp v.release r)) (suffix_cmp (plain v) (first_dev e r)) (from_dev v.pre v.post v.dev)

-- ---- stars

star_holds : (e : ℕ) (r raised : List ℕ) (v : Record) → IsRaised r raised →
    not (is_lt (record_cmp (plain v) (first_dev e r))) && is_lt (record_cmp (plain v) (first_dev e raised)) ≡ (v.epoch == e) && begins_with v.release r
star_holds e r raised v h =
    both _ _ _ _ (ap not (below_first_dev e r v)) (below_first_dev e raised v)
    ∙ step_more v.epoch e (release_cmp v.release r) (release_cmp v.release raised)
    ∙ ap (λ b. (v.epoch == e) && b) (prefix_bounds r raised v.release h)

pub star_agrees : (e : ℕ) (r : List ℕ) (v : Record) (range : Segments) → star (epoch_and_release e r) ≡ Some range → contains record_cmp range (plain v) ≡ has_prefix (epoch_and_release e r) r (plain v)
star_agrees e r v range h =
    let m = mapped _ (star_end (epoch_and_release e r) None None) range h in
    let n = mapped _ (raise_last r) m.0 m.1 in
    rw (m.2, n.2)
    (one_segment_holds_between record_total (Included (first_dev e r)) (Excluded (first_dev e n.0)) (plain v)
    ∙ both _ _ _ _ (turn_le (first_dev e r) (plain v)) refl
    ∙ star_holds e r n.0 v (raised_is r n.0 n.1))

pub not_star_agrees : (e : ℕ) (r : List ℕ) (v : Record) (range : Segments) → option_map gaps (star (epoch_and_release e r)) ≡ Some range → contains record_cmp range (plain v) ≡ not (has_prefix (epoch_and_release e r) r (plain v))
not_star_agrees e r v range h =
    let g = mapped gaps (star (epoch_and_release e r)) range h in
    let m = mapped _ (star_end (epoch_and_release e r) None None) g.0 g.1 in
    rw g.2 (gaps_hold_the_rest record_total g.0 (plain v) (rw m.2 (one_segment_is_range record_total (Included (first_dev e r)) (Excluded m.0))) ∙ ap not (star_agrees e r v g.0 g.1))

-- ---- `~=`

-- what is below the end has the shorter prefix, if it isn't below s
pub tilde_holds : (s v : Record) (raised : List ℕ) (below : Bool) → IsRaised (without_last s.release) raised →
    below ≡ is_lt (ordering_then (nat_cmp v.epoch s.epoch) (release_cmp v.release raised)) →
    not (is_lt (record_cmp (plain v) (plain s))) && below
    ≡ has_prefix s (without_last s.release) v && is_ge (record_cmp (plain v) (plain s))
tilde_holds s v raised below h b =
    ap (λ b. not (is_lt (record_cmp (plain v) (plain s))) && b) b
    ∙ ap (λ o. not (is_lt o) && u) (by_parts (plain v) (plain s))
    ∙ table (nat_cmp v.epoch s.epoch) (release_cmp v.release (without_last s.release)) (release_cmp v.release s.release) (ordering_then (suffix_cmp (plain v) (plain s)) ord.Equal)
    u (below_prefix v.release s.release)
    ∙ ap (λ o. (not (is_lt (ordering_then (nat_cmp v.epoch s.epoch) (release_cmp v.release (without_last s.release)))) && u) && not (is_lt o)) (sym (by_parts (plain v) (plain s)))
    ∙ both _ _ _ _
    (step_more v.epoch s.epoch (release_cmp v.release (without_last s.release)) (release_cmp v.release raised)
    ∙ ap (λ b. (v.epoch == s.epoch) && b) (prefix_bounds (without_last s.release) raised v.release h))
    (sym (ge_not_lt (record_cmp (plain v) (plain s))))
  where
    u : Bool
    u = is_lt (ordering_then (nat_cmp v.epoch s.epoch) (release_cmp v.release raised))

    table : (E F R Y : Ordering) (u : Bool) → (is_lt F ≡ true → is_lt R ≡ true) →
        not (is_lt (ordering_then (ordering_then E R) Y)) && u ≡ (not (is_lt (ordering_then E F)) && u) && not (is_lt (ordering_then (ordering_then E R) Y))
    table ord.Less F R Y u h = refl
    table ord.Greater F R Y true h = refl
    table ord.Greater F R Y false h = refl
    table ord.Equal F R Y u h = inside F R h
      where
        swap : (a u : Bool) → a && u ≡ (true && u) && a
        swap true true = refl
        swap true false = refl
        swap false true = refl
        swap false false = refl

        inside : (F R : Ordering) → (is_lt F ≡ true → is_lt R ≡ true) →
            not (is_lt (ordering_then R Y)) && u ≡ (not (is_lt F) && u) && not (is_lt (ordering_then R Y))
        inside ord.Less ord.Less h = refl
        inside ord.Less ord.Equal h = absurd (true≢false (sym (h refl)))
        inside ord.Less ord.Greater h = absurd (true≢false (sym (h refl)))
        inside ord.Equal R h = swap (not (is_lt (ordering_then R Y))) u
        inside ord.Greater R h = swap (not (is_lt (ordering_then R Y))) u

pub tilde_agrees : (s v : Record) (range : Segments) → range_of TildeEqual (plain s) ≡ Some range → contains record_cmp range (plain v) ≡ matches TildeEqual (plain s) (plain v)
tilde_agrees s v range h =
    let g = mapped _ (compatible_end (plain s)) range h in
    let m = mapped _ (raise_last (without_last s.release)) g.0 g.1 in
    rw (g.2, m.2)
    (one_segment_holds_between record_total (Included (plain s)) (Excluded (first_dev s.epoch m.0)) (plain v)
    ∙ both _ _ _ _ (turn_le (plain s) (plain v)) refl
    ∙ tilde_holds s v m.0 _ (raised_is (without_last s.release) m.0 m.1) (below_first_dev s.epoch m.0 v))
