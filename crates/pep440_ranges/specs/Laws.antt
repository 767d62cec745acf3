-- Which sets the lists denote, and that each is a range, as statements; each is proved for every total order.
use Rattle.std.specs.Prelude.{◌≡◌, ◌+◌, ◌-◌, ◌≤◌, not, ◌&&◌, List, length}
use Rattle.std.specs.declared.cmp.Ordering.{Ordering}
use Rattle.std.specs.declared.ops.Bound.{Bound}
use Rattle.pep440_ranges.specs.RangeSegments.{Segment, lies_in, contains, IsRange, one_segment}
use Rattle.pep440_ranges.specs.Complement.{gaps}
use Rattle.pep440_ranges.specs.Intersection.{overlaps}

module _ {V : Type 0} (cmp : V → V → Ordering) where
  -- the one segment, if it is valid, is a range of what lies between its bounds
  abbrev pub OneSegmentIsRange : Type 0
  OneSegmentIsRange = (start end : Bound V) → IsRange cmp (one_segment cmp start end)

  abbrev pub OneSegmentHoldsBetween : Type 0
  OneSegmentHoldsBetween = (start end : Bound V) (v : V) → contains cmp (one_segment cmp start end) v ≡ lies_in cmp (start, end) v

  -- the gaps of a range are a range of what it doesn't contain
  abbrev pub GapsAreRange : Type 0
  GapsAreRange = (ss : List (Segment V)) → IsRange cmp ss → IsRange cmp (gaps ss)

  abbrev pub GapsHoldTheRest : Type 0
  GapsHoldTheRest = (ss : List (Segment V)) (v : V) → IsRange cmp ss → contains cmp (gaps ss) v ≡ not (contains cmp ss v)

  -- the overlaps of two ranges are a range of what both contain
  abbrev pub OverlapsAreRange : Type 0
  OverlapsAreRange = (ss ts : List (Segment V)) → IsRange cmp ss → IsRange cmp ts → IsRange cmp (overlaps cmp ss ts)

  abbrev pub OverlapsHoldBoth : Type 0
  OverlapsHoldBoth = (ss ts : List (Segment V)) (v : V) → contains cmp (overlaps cmp ss ts) v ≡ contains cmp ss v && contains cmp ts v

  -- and there are at most one more, and one less than both together
  abbrev pub GapsAreFew : Type 0
  GapsAreFew = (ss : List (Segment V)) → length (gaps ss) ≤ length ss + 1

  abbrev pub OverlapsAreFew : Type 0
  OverlapsAreFew = (ss ts : List (Segment V)) → IsRange cmp ss → IsRange cmp ts → length (overlaps cmp ss ts) ≤ length ss + length ts - 1
