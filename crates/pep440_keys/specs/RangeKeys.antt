-- Segments of versions as half-open intervals of sort keys. Keys are compared byte by byte (`memcmp`, and then the length).
use Rattle.std.specs.Prelude.{◌≡◌, ℕ, Bool, true, not, ◌&&◌, List, [], ◌∷◌, ◌++◌, Option, Some, None}
use Rattle.std.specs.Cmp.Lexicographic.{slice_cmp}
use Rattle.std.specs.List.{All, list_any}
use Rattle.std.specs.Option.{option_map_or}
use Rattle.std.specs.Ordering.{nat_cmp, is_lt}
use Rattle.std.specs.declared.ops.Bound.{Bound}
use Rattle.std.specs.declared.ops.Bound.TheVariants.{Included, Excluded, Unbounded}
use Rattle.pep440_ranges.specs.RangeSegments.{Segment, contains}
use Rattle.pep440_keys.specs.SortKeys.{IsKeyed, key_bytes}
use Rattle.pep440_version.specs.Key.{record_cmp}
use Rattle.pep440_version.specs.Record.{Record}

-- the low key and the high key, each if there is one
abbrev pub Interval : Type 0
Interval = Option (List ℕ) × Option (List ℕ)

-- below by the order of bytes
abbrev pub is_below_key : List ℕ → List ℕ → Bool
is_below_key key other = is_lt (slice_cmp nat_cmp key other)

-- at least the low key, and below the high key
abbrev pub is_within : Interval → List ℕ → Bool
is_within interval key = option_map_or (λ low. not (is_below_key key low)) interval.0 true && option_map_or (λ high. is_below_key key high) interval.1 true

-- the key of a start, with a zero byte appended if its version is excluded
abbrev pub low_key : Bound Record → Option (List ℕ)
low_key (Included v) = Some (key_bytes v)
low_key (Excluded v) = Some (key_bytes v ++ 0 ∷ [])
low_key Unbounded = None

-- the key of an end, with a zero byte appended if its version is included
abbrev pub high_key : Bound Record → Option (List ℕ)
high_key (Included v) = Some (key_bytes v ++ 0 ∷ [])
high_key (Excluded v) = Some (key_bytes v)
high_key Unbounded = None

-- the low key of the start and the high key of the end
abbrev pub segment_interval : Segment Record → Interval
segment_interval s = (low_key s.0, high_key s.1)

-- ---- what is presupposed, and what then holds

-- the bound's version is one that sort keys distinguish (`IsKeyed`)
abbrev pub IsKeyedBound : Bound Record → Type 0
IsKeyedBound (Included v) = IsKeyed v
IsKeyedBound (Excluded v) = IsKeyed v
IsKeyedBound Unbounded = Unit {0}

-- so is each bound of the segment
abbrev pub IsKeyedSegment : Segment Record → Type 0
IsKeyedSegment s = IsKeyedBound s.0 × IsKeyedBound s.1

-- so is each bound of the range
abbrev pub HasKeys : List (Segment Record) → Type 0
HasKeys range = All IsKeyedSegment range

-- a version's key lies in some interval exactly if the version lies in the range
abbrev pub HoldsKeys : List (Segment Record) → List Interval → Type 0
HoldsKeys range intervals = (v : Record) → IsKeyed v → list_any (λ interval. is_within interval (key_bytes v)) intervals ≡ contains record_cmp range v
