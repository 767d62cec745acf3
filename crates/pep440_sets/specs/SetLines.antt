-- A set as lines, one for each interval: it begins with `[` and its least version, or with `(` where it has no least one, and ends before `)`
-- and the least version above it, or with `]` where there is no least one. `V.post*` stands for the post-releases of V.
use Rattle.std.specs.Prelude.{ℕ, Bool, List, [], ◌++◌, codes, false, if◌then◌else◌, is_some, not, true}
use Rattle.std.specs.List.{flat_map}
use Rattle.std.specs.declared.ops.Bound.{Bound}
use Rattle.std.specs.declared.ops.Bound.TheVariants.{Included, Excluded, Unbounded}
use Rattle.pep440_ranges.specs.RangeSegments.{Segment}
use Rattle.pep440_rs.specs.Bounds.{Segments}
use Rattle.pep440_version.specs.Print.{print}
use Rattle.pep440_version.specs.Record.{Record}

-- a version, or its post-releases
abbrev pub boundary_text : Record → List ℕ
boundary_text v = print v ++ (if is_some v.max then codes ".post*" else [])

-- the interval has its first version
abbrev pub is_closed_start : Bound Record → Bool
is_closed_start (Included v) = not (is_some v.max)
is_closed_start (Excluded v) = false
is_closed_start Unbounded = false

-- the interval has the last versions that its end names
abbrev pub is_closed_end : Bound Record → Bool
is_closed_end (Included v) = true
is_closed_end (Excluded v) = is_some v.max
is_closed_end Unbounded = false

-- the text of a boundary, a star for none
abbrev pub bound_text : Bound Record → List ℕ
bound_text (Included v) = boundary_text v
bound_text (Excluded v) = boundary_text v
bound_text Unbounded = codes "*"

-- how an interval begins
abbrev pub interval_start : Bound Record → List ℕ
interval_start start = (if is_closed_start start then codes "[" else codes "(") ++ bound_text start

-- how an interval ends
abbrev pub interval_end : Bound Record → List ℕ
interval_end end = bound_text end ++ (if is_closed_end end then codes "]" else codes ")")

-- an interval as a line, as `[1.0, 2.0.dev0)` and a newline
abbrev pub interval_line : Segment Record → List ℕ
interval_line s = interval_start s.0 ++ (codes ", " ++ (interval_end s.1 ++ codes "\n"))

-- the lines of the intervals
abbrev pub set_lines : Segments → List ℕ
set_lines set = flat_map interval_line set
