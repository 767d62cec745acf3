-- The release-only range of each specifier agrees with matching of releases.
use Rattle.std.proofs.Common.{◌≡◌, ℕ, Bool, true, false, not, ◌&&◌, ◌||◌, List, Some, refl, sym, ap, ◌∙◌, subst}
use Rattle.std.specs.Ordering.{is_lt, is_le, is_gt}
use Rattle.std.specs.declared.cmp.Ordering.TheVariants as ord
use Rattle.std.specs.declared.ops.Bound.TheVariants.{Included, Excluded}
use Rattle.pep440_rs.proofs.Agreement.VersionOrder.{by_parts, turn_le, turn_lt, ge_not_lt, only_start, only_end, both}
use Rattle.pep440_rs.proofs.Agreement.Prefix.{mapped, some_is, raised_is, prefix_bounds}
use Rattle.pep440_rs.proofs.Agreement.Single.{alone_holds, others_hold}
use Rattle.pep440_rs.proofs.Agreement.Star.{lt_base, tilde_holds}
use Rattle.pep440_rs.specs.Agreement.{Agrees, IsReleaseComparable}
use Rattle.pep440_rs.specs.Bounds.{Segments, release_range_of, release_up_to, raise_last}
use Rattle.pep440_rs.specs.Matching.{matches, begins_with, same_release, without_last}
use Rattle.pep440_rs.specs.Specifiers.{Spec}
use Rattle.pep440_rs.specs.declared.specifier.operator.Operator.{Operator}
use Rattle.pep440_rs.specs.declared.specifier.operator.Operator.TheVariants.{Equal, EqualStar, ExactEqual, NotEqual, NotEqualStar, TildeEqual, LessThan, LessThanEqual, GreaterThan, GreaterThanEqual}
use Rattle.pep440_ranges.proofs.Laws.{one_segment_holds_between, one_segment_is_range, gaps_hold_the_rest}
use Rattle.pep440_ranges.specs.Complement.{gaps}
use Rattle.pep440_ranges.specs.RangeSegments.{contains}
use Rattle.pep440_version.specs.Key.{record_cmp, release_cmp}
use Rattle.pep440_version.specs.Key.KeyLaws.{record_total}
use Rattle.pep440_version.specs.Record.{from_release}

-- no suffix is there that matching of `<` and `>` asks for
pub no_early : (b e : Bool) → b ≡ b && not (e && true && false)
no_early true true = refl
no_early true false = refl
no_early false e = refl

pub no_late : (b e : Bool) → b ≡ b && not (e && (false || false))
no_late true true = refl
no_late true false = refl
no_late false e = refl

-- below a release by the release
pub below_release : (r q : List ℕ) → is_lt (record_cmp (from_release q) (from_release r)) ≡ is_lt (release_cmp q r)
below_release r q = ap is_lt (by_parts (from_release q) (from_release r)) ∙ lt_base (release_cmp q r) ord.Equal refl

star_holds : (r q : List ℕ) (range : Segments) → release_up_to r r ≡ Some range → contains record_cmp range (from_release q) ≡ begins_with q r
star_holds r q range h =
    let m = mapped _ (raise_last r) range h in
    rw m.2
    (one_segment_holds_between record_total (Included (from_release r)) (Excluded (from_release m.0)) (from_release q)
    ∙ both _ _ _ _ (turn_le (from_release r) (from_release q) ∙ ap not (below_release r q)) (below_release m.0 q)
    ∙ prefix_bounds r m.0 q (raised_is r m.0 m.1))

abbrev For : Operator → List ℕ → List ℕ → Type 0
For op r q = (range : Segments) → release_range_of op (from_release r) ≡ Some range → contains record_cmp range (from_release q) ≡ matches op (from_release r) (from_release q)

each : (op : Operator) (r q : List ℕ) → (op ≡ ExactEqual → ⊥) → For op r q
each Equal r q p = λ range h. rw (some_is _ range h) (alone_holds (from_release r) (from_release q))
each ExactEqual r q p = absurd (p refl)
each NotEqual r q p = λ range h. rw (some_is _ range h) (others_hold (from_release r) (from_release q))
each EqualStar r q p = λ range h. star_holds r q range h
each NotEqualStar r q p = λ range h.
    let g = mapped gaps (release_up_to r r) range h in
    let m = mapped _ (raise_last r) g.0 g.1 in
    rw g.2 (gaps_hold_the_rest record_total g.0 (from_release q) (rw m.2 (one_segment_is_range record_total (Included (from_release r)) (Excluded (from_release m.0)))) ∙ ap not (star_holds r q g.0 g.1))
each TildeEqual r q p = λ range h.
    let m = mapped _ (raise_last (without_last r)) range h in
    rw m.2
    (one_segment_holds_between record_total (Included (from_release r)) (Excluded (from_release m.0)) (from_release q)
    ∙ both _ _ _ _ (turn_le (from_release r) (from_release q)) refl
    ∙ tilde_holds (from_release r) (from_release q) m.0 _ (raised_is (without_last r) m.0 m.1) (below_release m.0 q))
each LessThan r q p = λ range h.
    rw (some_is _ range h) (only_end (is_lt (record_cmp (from_release q) (from_release r))) ∙ no_early (is_lt (record_cmp (from_release q) (from_release r))) (same_release (from_release r) (from_release q)))
each LessThanEqual r q p = λ range h. rw (some_is _ range h) (only_end (is_le (record_cmp (from_release q) (from_release r))))
each GreaterThan r q p = λ range h.
    rw (some_is _ range h)
    (only_start (is_lt (record_cmp (from_release r) (from_release q))) ∙ turn_lt (from_release r) (from_release q)
    ∙ no_late (is_gt (record_cmp (from_release q) (from_release r))) (same_release (from_release r) (from_release q)))
each GreaterThanEqual r q p = λ range h.
    rw (some_is _ range h)
    (only_start (is_le (record_cmp (from_release r) (from_release q))) ∙ turn_le (from_release r) (from_release q) ∙ sym (ge_not_lt (record_cmp (from_release q) (from_release r))))

pub release_agrees : (s : Spec) (range : Segments) → release_range_of s.operator s.version ≡ Some range → Agrees IsReleaseComparable s range
release_agrees s range h v p =
    subst (λ w. contains record_cmp range w ≡ matches s.operator s.version w) (sym p.candidate)
    (each s.operator s.version.release v.release p.operator range h ∙ ap (λ t. matches s.operator t (from_release v.release)) (sym p.operand))
