-- What a list allows where pre-releases are left out; developmental releases count as pre-releases (PEP 440, "Handling of
-- pre-releases").
use Rattle.std.specs.Prelude.{Bool, List, not, ◌&&◌, ◌||◌}
use Rattle.std.specs.List.{list_any}
use Rattle.pep440_rs.specs.Matching.{any_prerelease, list_matches}
use Rattle.pep440_rs.specs.Operators.{is_exclusion}
use Rattle.pep440_rs.specs.Specifiers.{Spec}
use Rattle.pep440_version.specs.Record.{Record}

-- the specifier names a pre-release and its operator is not `!=`
abbrev pub requests_prerelease : Spec → Bool
requests_prerelease s = not (is_exclusion s.operator) && any_prerelease s.version

-- some specifier of the list asks for one
abbrev pub requests_prereleases : List Spec → Bool
requests_prereleases list = list_any requests_prerelease list

-- the list contains the version, and it is no pre-release unless these are taken
abbrev pub list_allows : Bool → List Spec → Record → Bool
list_allows takes list v = (takes || not (any_prerelease v)) && list_matches list v
