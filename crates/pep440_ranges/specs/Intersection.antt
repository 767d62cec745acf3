-- The intersection of two ranges: the valid overlaps of each segment of one with each of the other.
use Rattle.std.specs.Prelude.{Bool, List, map, filter, if◌then◌else◌}
use Rattle.std.specs.List.{flat_map}
use Rattle.std.specs.declared.cmp.Ordering.{Ordering}
use Rattle.pep440_ranges.specs.BoundOrder.{is_valid, starts_before, ends_before}
use Rattle.pep440_ranges.specs.RangeSegments.{Segment}

module _ {V : Type 0} (cmp : V → V → Ordering) where
  -- what two segments share: the later start and the earlier end, of two alike that of s
  abbrev pub overlap : Segment V → Segment V → Segment V
  overlap s t = (if starts_before cmp s.0 t.0 then t.0 else s.0, if ends_before cmp t.1 s.1 then t.1 else s.1)

  -- the segment's bounds enclose something
  abbrev pub is_valid_segment : Segment V → Bool
  is_valid_segment s = is_valid cmp s.0 s.1

  -- the valid overlaps of one segment with each of ts
  abbrev pub overlaps_with : Segment V → List (Segment V) → List (Segment V)
  overlaps_with s ts = filter is_valid_segment (map (overlap s) ts)

  -- the valid overlaps of each of ss with each of ts
  abbrev pub overlaps : List (Segment V) → List (Segment V) → List (Segment V)
  overlaps ss ts = flat_map (λ s. overlaps_with s ts) ss
