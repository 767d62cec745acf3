-- Sets of versions as bytes: the sort keys between which the versions of each interval lie.
use Rattle.std.specs.Prelude.{◌≡◌, ◌≢◌, ◌⊎◌, ◌<◌, ◌≤◌, ℕ, List, [], ◌∷◌, ◌++◌, get_or, length, take, unwrap_or}
use Rattle.std.specs.List.{flat_map}
use Rattle.std.specs.Slice.Scan.{big_endian}
use Rattle.pep440_keys.specs.RangeKeys.{Interval, segment_interval}
use Rattle.pep440_keys.specs.SortKeys.{number_bytes}
use Rattle.pep440_ranges.specs.RangeSegments.{Segment}
use Rattle.pep440_rs.specs.Bounds.{Segments}
use Rattle.pep440_version.specs.Record.{Fits, Record}

-- how many bytes there are, and these
abbrev pub sized_bytes : List ℕ → List ℕ
sized_bytes bytes = number_bytes 0 (length bytes) ++ bytes

-- the low key of an interval, no bytes where it has none: each key is at least these
abbrev pub low_bytes : Interval → List ℕ
low_bytes interval = unwrap_or interval.0 []

-- the high key of an interval, no bytes where it has none, since no key is below these
abbrev pub high_bytes : Interval → List ℕ
high_bytes interval = unwrap_or interval.1 []

-- both keys of an interval
abbrev pub interval_bytes : Interval → List ℕ
interval_bytes interval = sized_bytes (low_bytes interval) ++ sized_bytes (high_bytes interval)

-- the intervals of a set, in order
abbrev pub set_bytes : Segments → List ℕ
set_bytes set = flat_map (λ s. interval_bytes (segment_interval s)) set

-- the keys of the intervals of a set, two each, in order
abbrev pub set_keys : Segments → List (List ℕ)
set_keys set = flat_map (λ s. low_bytes (segment_interval s) ∷ high_bytes (segment_interval s) ∷ []) set

-- the keys of an interval fit in memory
abbrev pub IsSizedInterval : Interval → Type 0
IsSizedInterval interval = Fits (length (low_bytes interval)) × Fits (length (high_bytes interval))

abbrev pub IsSized : Segment Record → Type 0
IsSized s = IsSizedInterval (segment_interval s)

-- the first eight bytes of a key as a number, the greatest first; of no key the number that stands for none
abbrev pub IsFront : ℕ → ℕ → List ℕ → Type 0
IsFront none front key = ((key ≡ []) × (front ≡ none)) ⊎ ((8 ≤ length key) × ((k : ℕ) → get_or key k 0 < 256) × (front ≡ big_endian 0 (take 8 key)))

-- the fronts of both keys of an interval
abbrev pub HasBothFronts : ℕ × ℕ → Segment Record → Type 0
HasBothFronts fronts s = IsFront 0 fronts.0 (low_bytes (segment_interval s)) × IsFront 18446744073709551615 fronts.1 (high_bytes (segment_interval s))

-- those of each interval of a set, in order
abbrev pub HasFronts : List (ℕ × ℕ) → Segments → Type 0
HasFronts [] [] = Unit {0}
HasFronts (f ∷ fronts) (s ∷ set) = HasBothFronts f s × HasFronts fronts set
HasFronts [] (s ∷ set) = ⊥
HasFronts (f ∷ fronts) [] = ⊥

-- neither front of an interval is this one
abbrev pub AreOthers : ℕ → List (ℕ × ℕ) → Type 0
AreOthers front [] = Unit {0}
AreOthers front (f ∷ fronts) = ((front ≢ f.0) × (front ≢ f.1)) × AreOthers front fronts

-- no bytes, or at least eight
abbrev pub IsLong : List ℕ → Type 0
IsLong key = (key ≡ []) ⊎ (8 ≤ length key)

-- both keys of each interval are long
abbrev pub HasLongKeys : Segments → Type 0
HasLongKeys [] = Unit {0}
HasLongKeys (s ∷ set) = (IsLong (low_bytes (segment_interval s)) × IsLong (high_bytes (segment_interval s))) × HasLongKeys set
