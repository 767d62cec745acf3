-- The complement of a range: its gaps. Each bound of a gap is that of a segment, turned.
use Rattle.std.specs.Prelude.{List, [], ◌∷◌, ◌++◌}
use Rattle.std.specs.declared.ops.Bound.{Bound}
use Rattle.std.specs.declared.ops.Bound.TheVariants.{Included, Excluded, Unbounded}
use Rattle.pep440_ranges.specs.BoundOrder.{flipped_bound}
use Rattle.pep440_ranges.specs.RangeSegments.{Segment}

module _ {V : Type 0} where
  -- the gap before a start
  abbrev pub gap_before : Bound V → List (Segment V)
  gap_before Unbounded = []
  gap_before (Included x) = (Unbounded, Excluded x) ∷ []
  gap_before (Excluded x) = (Unbounded, Included x) ∷ []

  -- the gap after an end
  abbrev pub gap_after : Bound V → List (Segment V)
  gap_after Unbounded = []
  gap_after (Included x) = (Excluded x, Unbounded) ∷ []
  gap_after (Excluded x) = (Included x, Unbounded) ∷ []

  -- the gaps from an end on, between the segments and after them
  abbrev pub gaps_after : Bound V → List (Segment V) → List (Segment V)
  gaps_after end [] = gap_after end
  gaps_after end (s ∷ ss) = (flipped_bound end, flipped_bound s.0) ∷ gaps_after s.1 ss

  -- the gaps before, between and after the segments; the whole line if there is no segment
  abbrev pub gaps : List (Segment V) → List (Segment V)
  gaps [] = (Unbounded, Unbounded) ∷ []
  gaps (s ∷ ss) = gap_before s.0 ++ gaps_after s.1 ss
