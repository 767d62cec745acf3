-- Requirements of a project that hold together: its dependencies; those of an extra with the extras that it includes and the dependencies; those of a group
-- with the groups that it includes, and with the dependencies if `together` is true; and those of its build. What a project overrides is replaced by the
-- override.
use Rattle.std.specs.Prelude.{None, Some, ◌&&◌, Bool, true, false, bytes_eq, ℕ, List, not, [], if◌then◌else◌, ◌∷◌, ◌++◌, nat_eq, map, is_some, Option, ◌≡◌}
use Rattle.std.specs.List.{list_any, filter, flat_map}
use Rattle.std.specs.Option.{option_or}
use Rattle.pep440_rs.specs.Bounds.{Segments}
use Rattle.pyver_documents.specs.Meanings.{StringReading, extra_inclusions, inclusions}
use Rattle.pyver_findings.specs.Demands.{Demand}
use Rattle.pyver_findings.specs.FileLines.{FileLine, Conflicting, Finding, NoRequirement}
use Rattle.pyver_findings.specs.MarkedConflicts.{FindsOfNames, FindsOfEach}
use Rattle.pyver_findings.specs.Reports.{demands_in}
use Rattle.pyver_markers.specs.Conditions.{Domain}
use Rattle.pyver_projects.specs.ProjectStrings.{Build, Constraint, Dependencies, Entry, Extra, Group, Include, Invalid, OwnExtras, Python, Section, Unread, Version, Inclusion, includes}
use Rattle.pyver_requirements.specs.declared.cause.Cause.{Cause}

-- ---- parts of a project

-- the part to which a string of the section belongs: the name of an included group belongs to the group that includes it, and an included extra to the extra
-- that does; and to the dependencies what
-- tables of Poetry ask for, which looks for versions for all its groups at once, and what uv is to add to them
abbrev pub section_part : Section → Section
section_part (Include group included) = Group group
section_part Dependencies = Dependencies
section_part (Extra name) = Extra name
section_part (Group name) = Group name
section_part (OwnExtras None extras) = OwnExtras None extras
section_part (OwnExtras (Some asker) extras) = Extra asker
section_part (Invalid table reason) = Invalid table reason
section_part (Entry table name) = Dependencies
section_part Constraint = Dependencies
section_part (Unread c) = Unread c
section_part Build = Build
section_part Python = Python
section_part Version = Version

-- the two parts are the same
abbrev pub same_part : Section → Section → Bool
same_part (Extra a) (Extra b) = bytes_eq a b
same_part (Group a) (Group b) = bytes_eq a b
same_part Dependencies Dependencies = true
same_part Build Build = true
same_part _ _ = false

-- the part holds together with the dependencies
abbrev pub has_dependencies : Bool → Section → Bool
has_dependencies together Dependencies = true
has_dependencies together (Extra name) = true
has_dependencies together (Group name) = together
has_dependencies together _ = false

-- the part is an extra that is this one or includes it
abbrev pub has_extra : List Inclusion → Section → List ℕ → Bool
has_extra is (Extra extra) name = includes is extra name
has_extra is part name = false

-- the part is a group that is this one or includes it
abbrev pub has_group : List Inclusion → Section → List ℕ → Bool
has_group is (Group group) name = includes is group name
has_group is Dependencies name = false
has_group is (Extra other) name = false
has_group is (Include group included) name = false
has_group is (OwnExtras asker extras) name = false
has_group is (Invalid table reason) name = false
has_group is (Entry table key) name = false
has_group is Constraint name = false
has_group is (Unread c) name = false
has_group is Build name = false
has_group is Python name = false
has_group is Version name = false

abbrev pub is_build : Section → Bool
is_build Build = true
is_build _ = false

-- a string of the section holds in the part, which has these groups and extras
abbrev pub holds_in : Bool → (has_group has_extra : List ℕ → Bool) → Section → Section → Bool
holds_in together groups extras part Dependencies = has_dependencies together part
holds_in together groups extras part (Extra name) = extras name
holds_in together groups extras part (Group name) = groups name
holds_in together groups extras part Build = is_build part
holds_in together groups extras part (Include group included) = false
holds_in together groups extras part (OwnExtras asker asked) = false
holds_in together groups extras part (Invalid table reason) = false
holds_in together groups extras part (Entry table name) = has_dependencies together part
holds_in together groups extras part Constraint = has_dependencies together part
holds_in together groups extras part (Unread c) = false
holds_in together groups extras part Python = false
holds_in together groups extras part Version = false

-- the section is of the tables that PEP 621 and PEP 735 define, whose requirements uv and PDM may replace
abbrev pub is_standard : Section → Bool
is_standard Dependencies = true
is_standard (Extra name) = true
is_standard (Group name) = true
is_standard _ = false

-- the project overrides these names, and so a requirement of this section for the name
abbrev pub is_replaced : List (List ℕ) → Section → List ℕ → Bool
is_replaced overridden section name = is_standard section && list_any (bytes_eq name) overridden

-- what is left of the requirements of a section
abbrev pub unreplaced : List (List ℕ) → Section → List Demand → List Demand
unreplaced overridden section lines = filter (λ (a : Demand). not (is_replaced overridden section a.name)) lines

-- the requirement of a string that holds in the part of a project that overrides these names
abbrev pub demand_in_part : Bool → List (List ℕ) → (has_group has_extra : List ℕ → Bool) → Section → StringReading → List Demand
demand_in_part together overridden groups extras part x = if holds_in together groups extras part x.section then unreplaced overridden x.section (demands_in x.meaning) else []

-- the requirements of a part, where groups and extras include others so
abbrev pub part_demands : Bool → List (List ℕ) → (groups extras : List Inclusion) → Section → List StringReading → List Demand
part_demands together overridden groups extras part xs = flat_map (demand_in_part together overridden (has_group groups part) (has_extra extras part) part) xs

-- the requirements of all strings
abbrev pub all_demands : List StringReading → List Demand
all_demands xs = flat_map (λ (x : StringReading). demands_in x.meaning) xs

-- ---- each once

-- these, and after them those that are not there yet
abbrev pub with_new : {A : Type 0} → (A → A → Bool) → List A → List A → List A
with_new same found [] = found
with_new same found (x ∷ xs) = with_new same (if list_any (same x) found then found else found ++ x ∷ []) xs

abbrev pub same_line : FileLine → FileLine → Bool
same_line a b = nat_eq a.number b.number && (bytes_eq a.file b.file && bytes_eq a.text b.text)

abbrev pub same_lines : List FileLine → List FileLine → Bool
same_lines [] [] = true
same_lines [] (b ∷ bs) = false
same_lines (a ∷ xs) [] = false
same_lines (a ∷ xs) (b ∷ bs) = same_line a b && same_lines xs bs

-- both findings name the same lines
abbrev pub same_finding : Finding → Finding → Bool
same_finding (Conflicting kind xs environment) (Conflicting other ys elsewhere) = same_lines xs ys
same_finding (Conflicting kind xs environment) (NoRequirement line reason column) = false
same_finding (NoRequirement line reason column) g = false

-- ---- a project

-- the sections of strings
abbrev pub sections : List StringReading → List Section
sections xs = map (λ (x : StringReading). x.section) xs

-- the parts of a project, each once
abbrev pub parts : List StringReading → List Section
parts xs = with_new same_part [] (map section_part (sections xs))

-- the requirement has a marker
abbrev pub is_marked : Demand → Bool
is_marked a = is_some a.marker

-- the versions of Python that the project with these strings is for, or all: those of `requires-python`, if it has a set of versions
abbrev pub project_python : List StringReading → Option Segments
project_python [] = None
project_python (x ∷ xs) = option_or x.python (project_python xs)

-- the environments in which the project is installed, each of one system
abbrev pub project_domain : List StringReading → Domain
project_domain xs = record { linked = true; python = project_python xs }

-- of the requirements of a part those that have no version in common, in an environment in which the project is installed
abbrev pub FindsOfPart : Bool → List (List ℕ) → List StringReading → Section → List Finding → List Cause → Type 0
FindsOfPart together overridden xs part = FindsOfNames (project_domain xs) (part_demands together overridden (inclusions (sections xs)) (extra_inclusions (sections xs)) part xs)

-- of each part, each finding once
abbrev pub FindsOfParts : Bool → List (List ℕ) → List StringReading → List Finding → List Cause → Type 0
FindsOfParts together overridden xs fs cs = (found : List Finding) × FindsOfEach (FindsOfPart together overridden xs) (parts xs) found cs × (fs ≡ with_new same_finding [] found)
