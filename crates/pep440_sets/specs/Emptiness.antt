-- Which versions sets have, of those that strings denote.
use Rattle.std.specs.Prelude.{◌≡◌, IsTrue, List, false, true}
use Rattle.pep440_ranges.specs.RangeSegments.{contains}
use Rattle.pep440_rs.specs.Bounds.{Segments}
use Rattle.pep440_rs.specs.Denoted.{IsDenoted}
use Rattle.pep440_rs.specs.LiteralMatching.{list_matches_literally}
use Rattle.pep440_rs.specs.Specifiers.{Spec}
use Rattle.pep440_version.specs.Key.{record_cmp}
use Rattle.pep440_version.specs.Record.{Record}

-- no version is in the set
abbrev pub HasNoVersion : Segments → Type 0
HasNoVersion set = (v : Record) → IsDenoted v → contains record_cmp set v ≡ false

-- the version is in the set
abbrev pub IsVersionOf : Segments → Record → Type 0
IsVersionOf set v = IsDenoted v × (contains record_cmp set v ≡ true)

-- each version of the first set is in the second
abbrev pub IsSubset : Segments → Segments → Type 0
IsSubset a b = (v : Record) → IsDenoted v → contains record_cmp a v ≡ true → contains record_cmp b v ≡ true

-- no version is in both sets
abbrev pub IsDisjoint : Segments → Segments → Type 0
IsDisjoint a b = (v : Record) → IsDenoted v → contains record_cmp a v ≡ true → contains record_cmp b v ≡ true → ⊥

-- the list matches no version
abbrev pub IsUnsatisfiable : List Spec → Type 0
IsUnsatisfiable members = (v : Record) → IsDenoted v → IsTrue (list_matches_literally members v) → ⊥
