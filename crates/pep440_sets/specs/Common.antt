-- A version that a list matches: the version of `===`, if there is such a member and the list matches it, and otherwise one of its set.
use Rattle.std.specs.Prelude.{List, Option, Some, None, if◌then◌else◌}
use Rattle.std.specs.List.{find}
use Rattle.std.specs.Option.{option_map_or}
use Rattle.pep440_rs.specs.LiteralMatching.{list_matches_literally}
use Rattle.pep440_rs.specs.Specifiers.{Spec}
use Rattle.pep440_version.specs.Record.{Record}
use Rattle.pep440_sets.specs.Sets.{is_exact, list_set}
use Rattle.pep440_sets.specs.Witnesses.{version_in}

-- the version, if the list matches it
abbrev pub named_version : List Spec → Record → Option Record
named_version members v = if list_matches_literally members v then Some v else None

-- the version of the first `===`, or a version of the set
abbrev pub common_version : List Spec → Option Record
common_version members = option_map_or (λ (m : Spec). named_version members m.version) (find (λ (m : Spec). is_exact m.operator) members) (version_in (list_set members))
