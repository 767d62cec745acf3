-- A range: a list of valid segments, each apart from the next. Its set is the values that lie in some segment.
use Rattle.std.specs.Prelude.{Bool, ◌&&◌, IsTrue, List, [], ◌∷◌, if◌then◌else◌}
use Rattle.std.specs.List.{list_any}
use Rattle.std.specs.declared.cmp.Ordering.{Ordering}
use Rattle.std.specs.declared.ops.Bound.{Bound}
use Rattle.pep440_ranges.specs.BoundOrder.{is_from_start, is_up_to_end, is_valid, is_apart}

-- a start and an end
abbrev pub Segment : Type 0 → Type 0
Segment V = Bound V × Bound V

module _ {V : Type 0} (cmp : V → V → Ordering) where
  -- the value lies in the segment
  abbrev pub lies_in : Segment V → V → Bool
  lies_in s v = is_from_start cmp s.0 v && is_up_to_end cmp s.1 v

  -- the value lies in some segment
  abbrev pub contains : List (Segment V) → V → Bool
  contains ss v = list_any (λ s. lies_in s v) ss

  -- the segments are valid, each is apart from the next, and the first is apart from this end
  abbrev pub IsRangeAfter : Bound V → List (Segment V) → Type 0
  IsRangeAfter end [] = Unit {0}
  IsRangeAfter end (s ∷ ss) = IsTrue (is_apart cmp end s.0) × IsTrue (is_valid cmp s.0 s.1) × IsRangeAfter s.1 ss

  -- the segments are valid, and each is apart from the next
  abbrev pub IsRange : List (Segment V) → Type 0
  IsRange [] = Unit {0}
  IsRange (s ∷ ss) = IsTrue (is_valid cmp s.0 s.1) × IsRangeAfter s.1 ss

  -- the segment alone if it is valid, else none
  abbrev pub one_segment : Bound V → Bound V → List (Segment V)
  one_segment start end = if is_valid cmp start end then (start, end) ∷ [] else []
