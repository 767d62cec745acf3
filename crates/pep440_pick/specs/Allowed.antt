-- The versions that requirements of one name allow.
use Rattle.std.specs.Prelude.{◌≡◌, ℕ, List, false, map}
use Rattle.std.specs.List.{filter, list_all}
use Rattle.std.specs.Option.{option_map_or}
use Rattle.pep440_ranges.specs.RangeSegments.{contains}
use Rattle.pep440_rs.specs.Bounds.{Segments, list_range, range_of}
use Rattle.pep440_rs.specs.Specifiers.{Spec}
use Rattle.pep440_version.specs.Key.{record_cmp}
use Rattle.pep440_version.specs.Record.{Record}
use Rattle.pep440_pick.specs.Names.{same_name}
use Rattle.pep440_pick.specs.RequirementGrammar.{Needed}

-- the lists of the requirements of that name
abbrev pub lists_of : List ℕ → List Needed → List (List Spec)
lists_of name requirements = map (λ (n : Needed). n.specifiers) (filter (λ (n : Needed). same_name n.name name) requirements)

-- the range holds exactly what the range of each of the lists holds; the conversion of none of them fails
abbrev pub HoldsAllowed : List (List Spec) → Segments → Type 0
HoldsAllowed lists range = (v : Record) → contains record_cmp range v ≡ list_all (λ list. option_map_or (λ r. contains record_cmp r v) (list_range range_of list) false) lists
