-- A range as lines, one for each segment.
use Rattle.std.specs.Prelude.{ℕ, List, [], ◌∷◌, ◌++◌, codes}
use Rattle.std.specs.List.{flat_map}
use Rattle.std.specs.declared.ops.Bound.{Bound}
use Rattle.std.specs.declared.ops.Bound.TheVariants.{Included, Excluded, Unbounded}
use Rattle.pep440_version.specs.Sentinels.{print_with_sentinels}
use Rattle.pep440_ranges.specs.RangeSegments.{Segment}
use Rattle.pep440_rs.specs.Bounds.{Segments}
use Rattle.pep440_version.specs.Record.{Record}

-- how a segment's start is written: `[` for included, `(` for excluded, a star for unbounded
abbrev pub start_text : Bound Record → List ℕ
start_text (Included v) = codes "[" ++ print_with_sentinels v
start_text (Excluded v) = codes "(" ++ print_with_sentinels v
start_text Unbounded = codes "(*"

-- how a segment's end is written: `]` for included, `)` for excluded, a star for unbounded
abbrev pub end_text : Bound Record → List ℕ
end_text (Included v) = print_with_sentinels v ++ codes "]"
end_text (Excluded v) = print_with_sentinels v ++ codes ")"
end_text Unbounded = codes "*)"

-- a segment as a line, as `[1.0, 2.0)` and a newline
abbrev pub segment_line : Segment Record → List ℕ
segment_line s = start_text s.0 ++ (codes ", " ++ (end_text s.1 ++ codes "\n"))

-- a line for each segment, or the line `empty`
abbrev pub range_lines : Segments → List ℕ
range_lines [] = codes "empty\n"
range_lines (s ∷ rest) = flat_map segment_line (s ∷ rest)
