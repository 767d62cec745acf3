-- Sets of versions as compiled forms: by themselves, as set operations give them, or before the members of a list.
use Rattle.std.specs.Prelude.{◌≡◌, ◌⊎◌, ◌≤◌, ℕ, List, ◌∷◌, Some, length, slice_get, take}
use Rattle.std.specs.List.{All}
use Rattle.std.specs.Slice.Scan.{big_endian}
use Rattle.pep440_compiled.specs.Lists.{DenotesWithSet, HasSetFormat}
use Rattle.pep440_compiled.specs.SetBytes.{AreOthers, HasFronts, HasLongKeys, IsSized, set_bytes}
use Rattle.pep440_compiled.specs.declared.set_forms.SetFronts.{SetFronts}
use Rattle.pep440_keys.specs.SortKeys.{key_bytes}
use Rattle.pep440_rs.specs.Bounds.{Segments}
use Rattle.pep440_rs.specs.Specifiers.{Spec}
use Rattle.pep440_sets.specs.Boundaries.{IsVersionSet}
use Rattle.pep440_sets.specs.Sets.{list_set}
use Rattle.pep440_version.specs.Record.{Record}

-- the bytes are the keys of this set of versions
pub record IsBytesOf (bytes : List ℕ) (set : Segments) : Type 0 where
  pub valid : IsVersionSet set
  pub sizes : All IsSized set
  pub same : bytes ≡ set_bytes set

-- the bytes begin with the format byte 7
abbrev pub HasLoneSetFormat : List ℕ → Type 0
HasLoneSetFormat bytes = slice_get bytes 0 ≡ Some 7

-- the format byte 7, and the keys of this set
abbrev pub DenotesSet : List ℕ → Segments → Type 0
DenotesSet bytes set = (keys : List ℕ) × IsBytesOf keys set × (bytes ≡ 7 ∷ keys)

-- the bytes are a set by itself, or a list that has this set
abbrev pub HasSet : List ℕ → Segments → Type 0
HasSet bytes set = DenotesSet bytes set ⊎ ((list : List Spec) × DenotesWithSet bytes list × (set ≡ list_set list))

-- the bytes begin with the format byte 6 or 7
abbrev pub HasFormatOfSets : List ℕ → Type 0
HasFormatOfSets bytes = HasSetFormat bytes ⊎ HasLoneSetFormat bytes

-- the fronts are those of this set of versions
pub record IsFrontsOf (fronts : SetFronts) (set : Segments) : Type 0 where
  pub valid : IsVersionSet set
  pub keys : HasFronts fronts.ranges.items set

-- the sets whose fronts are kept: of at most eight intervals, each key with at least eight bytes, as keys have unless a release is all zeros
pub record HasFewLongKeys (set : Segments) : Type 0 where
  pub few : length set ≤ 8
  pub long : HasLongKeys set

-- the sort key has at least eight bytes, and none of the fronts is its first eight: then the fronts decide
pub record IsDecidedBy (fronts : SetFronts) (r : Record) : Type 0 where
  pub long : 8 ≤ length (key_bytes r)
  pub other : AreOthers (big_endian 0 (take 8 (key_bytes r))) fronts.ranges.items
