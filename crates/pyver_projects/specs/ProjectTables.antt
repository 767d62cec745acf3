-- What `pyproject.toml` has to check: the strings in its tables and in those of tools, names of groups and extras, and what asks the project
-- itself for extras.
use Rattle.std.specs.Prelude.{List, [], ℕ, ◌∷◌, Bool, if◌then◌else◌, None, Option, Some, codes, not, ◌++◌, ◌+◌, is_none, map, bytes_eq, count_by, nat_lt, length, nat_eq, ◌&&◌, option_and_then, ◌||◌, is_some, false, option_map, option_to_list}
use Rattle.std.specs.List.{flat_map, list_any}
use Rattle.std.specs.Option.{option_map_or, option_or, unwrap_or}
use Rattle.pep440_pick.specs.Names.{normal, is_name, is_name_byte}
use Rattle.pep440_pick.specs.RequirementReading.{name_of}
use Rattle.pep440_rs.specs.Blanks.{opens}
use Rattle.pep440_version.specs.Reading.{lead}
use Rattle.toml.specs.Data.{Data, as_str, Members, get_member, get, as_table, as_array}
use Rattle.pyver_projects.specs.ProjectStrings.{Invalid, ProjectString, Section, is_array_or_none, listed, inside, Extra, entries, text_in, Group, Include, is_table_or_none, Python, Version, Dependencies, Build, is_text_or_none, Unread, Entry, texts_listed, key_path, Constraint, OwnExtras}
use Rattle.pyver_projects.specs.RequirementStrings.{poetry_list, both_markers, platform_marker, python_marker, extras_text, requirement_text, marked_text, string_extras, is_conditional}
use Rattle.pyver_projects.specs.declared.tool_tables.GroupTool.{GroupTool}
use Rattle.pyver_requirements.specs.declared.cause.Cause.{Cause}
use Rattle.pyver_projects.specs.declared.tool_tables.GroupTool.TheVariants as of_tool
use Rattle.pyver_requirements.specs.declared.cause.Cause.TheVariants as cause

-- ---- `pyproject.toml`

-- the name of a value in this table that is invalid for this reason
abbrev pub invalid_name : List ℕ → List ℕ → List ℕ → List ProjectString
invalid_name table name reason = record { section = Invalid table reason; text = name } ∷ []

-- the name for this reason, unless it is right
abbrev pub unless : Bool → List ℕ → List ℕ → List ℕ → List ProjectString
unless is_right table name reason = if is_right then [] else invalid_name table name reason

-- the string, or that the value at this name is none
abbrev pub string_or : List ℕ → List ℕ → List ℕ → Section → Option (List ℕ) → List ProjectString
string_or table name reason section None = invalid_name table name reason
string_or table name reason section (Some text) = record { section = section; text = text } ∷ []

-- the string at this name, if there is a value
abbrev pub text_sources : List ℕ → List ℕ → Section → Option Data → List ProjectString
text_sources table name section None = []
text_sources table name section (Some d) = string_or table name (codes "not a string") section (as_str d)

-- an item of the array at this name, which is to be a string
abbrev pub source_from : List ℕ → List ℕ → Section → Data → List ProjectString
source_from table name section d = string_or table name (codes "not an array of strings") section (as_str d)

-- the strings of the array at this name
abbrev pub array_sources : List ℕ → List ℕ → Section → Option Data → List ProjectString
array_sources table name section value = unless (is_array_or_none value) table name (codes "not an array of strings") ++ flat_map (source_from table name section) (listed value)

-- an item of `dynamic`, which is to name a field that the table does not have (PEP 621, "dynamic")
abbrev pub dynamic_source : Option Data → Option (List ℕ) → List ProjectString
dynamic_source project None = invalid_name (codes "project.") (codes "dynamic") (codes "not an array of strings")
dynamic_source project (Some name) = unless (is_none (inside name project)) (codes "project.dynamic.") name (codes "both dynamic and given")

-- what is wrong with the fields that the table `project` says to be dynamic
abbrev pub dynamic_sources : Option Data → List ProjectString
dynamic_sources project = unless (is_array_or_none (inside (codes "dynamic") project)) (codes "project.") (codes "dynamic") (codes "not an array of strings")
    ++ flat_map (λ (d : Data). dynamic_source project (as_str d)) (listed (inside (codes "dynamic") project))

-- ---- names

-- the name of an entry in its normal form
abbrev pub entry_name : List ℕ × Data → List ℕ
entry_name e = normal e.0

-- the names of entries
abbrev pub entry_names : List (List ℕ × Data) → List (List ℕ)
entry_names es = map entry_name es

-- the name for this reason, if another one of these is the same
abbrev pub repeated_name : List ℕ → List ℕ → List (List ℕ) → List ℕ → List ProjectString
repeated_name table reason names name = unless (not (nat_lt 1 (count_by (bytes_eq (normal name)) names))) table name reason

-- that the name is none (PEP 508, "Names"), or for this reason that another one of these is the same (PEP 685; PEP 735, "Specification")
abbrev pub name_faults : List ℕ → List ℕ → List (List ℕ) → List ℕ → List ProjectString
name_faults table reason names name = unless (is_name name) table name (codes "not a valid name") ++ repeated_name table reason names name

-- the strings of the array of an extra, beside those with these names
abbrev pub extra_sources : List (List ℕ) → List ℕ × Data → List ProjectString
extra_sources names e = name_faults (codes "project.optional-dependencies.") (codes "another extra has this name") names e.0 ++ array_sources (codes "project.optional-dependencies.") e.0 (Extra (normal e.0)) (Some e.1)

-- ---- groups

-- the table of groups
abbrev pub groups_table : Members → List (List ℕ × Data)
groups_table document = entries (get_member (codes "dependency-groups") document)

-- the names of the groups
abbrev pub group_names : Members → List (List ℕ)
group_names document = entry_names (groups_table document)

-- the name of the group that an item includes: it is a table with the key `include-group` only
abbrev pub included_name : Data → Option (List ℕ)
included_name d = if nat_eq (length (entries (Some d))) 1 then text_in (get (codes "include-group") d) else None

-- an item of the group with this name, which is a string, or includes a group, or neither
abbrev pub item_source : List ℕ → Option (List ℕ) → Option (List ℕ) → List ProjectString
item_source name (Some text) included = record { section = Group (normal name); text = text } ∷ []
item_source name None (Some included) = record { section = Include (normal name) (normal included); text = included } ∷ []
item_source name None None = invalid_name (codes "dependency-groups.") name (codes "an item is neither a requirement nor an included group")

abbrev pub item_sources : List ℕ → Data → List ProjectString
item_sources name d = item_source name (as_str d) (included_name d)

-- the strings of the array of a group, and the names of those that it includes
abbrev pub group_items : List ℕ → Data → List ProjectString
group_items name d = unless (is_array_or_none (Some d)) (codes "dependency-groups.") name (codes "not an array") ++ flat_map (item_sources name) (listed (Some d))

-- the same, beside these groups
abbrev pub group_sources : List (List ℕ) → List ℕ × Data → List ProjectString
group_sources names e = name_faults (codes "dependency-groups.") (codes "another group has this name") names e.0 ++ group_items e.0 e.1

-- ---- all strings

-- that the value at this name is no table, if there is one
abbrev pub table_fault : List ℕ → List ℕ → Option Data → List ProjectString
table_fault table name value = unless (is_table_or_none value) table name (codes "not a table")

-- the strings of the extras in this table
abbrev pub optional_sources : Option Data → List ProjectString
optional_sources extras = table_fault (codes "project.") (codes "optional-dependencies") extras ++ flat_map (extra_sources (entry_names (entries extras))) (entries extras)

-- the two fields of the table `project` that are strings
abbrev pub field_sources : Option Data → List ProjectString
field_sources project = text_sources (codes "project.") (codes "requires-python") Python (inside (codes "requires-python") project)
    ++ text_sources (codes "project.") (codes "version") Version (inside (codes "version") project)

-- the strings in the table `project`
abbrev pub table_sources : Option Data → List ProjectString
table_sources project = array_sources (codes "project.") (codes "dependencies") Dependencies (inside (codes "dependencies") project)
    ++ (optional_sources (inside (codes "optional-dependencies") project)
    ++ field_sources project)

-- the names of tables that are none
abbrev pub table_faults : Members → List ProjectString
table_faults document = table_fault [] (codes "project") (get_member (codes "project") document)
    ++ (table_fault [] (codes "dependency-groups") (get_member (codes "dependency-groups") document)
    ++ table_fault [] (codes "build-system") (get_member (codes "build-system") document))

-- what the build requires
abbrev pub build_sources : Members → List ProjectString
build_sources document = array_sources (codes "build-system.") (codes "requires") Build (inside (codes "requires") (get_member (codes "build-system") document))

-- ---- tables of tools

-- the conditions of a table, if it has some, are those that are read, and strings
abbrev pub has_conditions : Data → Bool
has_conditions d = is_text_or_none (get (codes "markers") d) && (is_text_or_none (get (codes "python") d) && is_text_or_none (get (codes "platform") d))

-- the list of a table, or `*`
abbrev pub table_list : Data → Option (List ℕ)
table_list d = if has_conditions d then Some (option_map_or (λ list. list) (text_in (get (codes "version") d)) (codes "*")) else None

-- the list of an entry: a string, or a table
abbrev pub entry_list : Data → Option (List ℕ)
entry_list d = option_or (as_str d) (option_and_then (λ (members : Members). table_list d) (as_table d))

-- the condition of a table, or none
abbrev pub condition : List ℕ → Data → List ℕ
condition key d = unwrap_or (text_in (get key d)) []

-- the conditions of an entry as one marker, where `python` has a list of Poetry ("`python` restricted dependencies", "Using environment markers")
abbrev pub entry_marker : Data → List ℕ
entry_marker d = both_markers (condition (codes "markers") d)
    (both_markers (python_marker (poetry_list (condition (codes "python") d))) (platform_marker (condition (codes "platform") d)))

-- the name and the list are those of a package
abbrev pub is_package_name : List ℕ → Bool
is_package_name name = is_name name && not (bytes_eq name (codes "python"))

-- that it is not read, for this cause
abbrev pub unread : Cause → List ProjectString
unread c = record { section = Unread c; text = [] } ∷ []

-- the entry of this name with these extras, this list and this marker, as a requirement of PEP 508
abbrev pub listed_source : List ℕ → List ℕ → List (List ℕ) → List ℕ → Option (List ℕ) → List ProjectString
listed_source table name extras marker None = unread cause.OtherSyntax
listed_source table name extras marker (Some list) = record { section = Entry table name; text = marked_text (requirement_text (name ++ extras_text extras) (poetry_list list)) marker } ∷ []

abbrev pub entry_source : List ℕ → List ℕ → Data → List ProjectString
entry_source table name d = listed_source table name (texts_listed (get (codes "extras") d)) (entry_marker d) (entry_list d)

-- what an array of entries asks for, or another value, which is one ("Multiple constraints dependencies")
abbrev pub each_source : List ℕ → List ℕ → Data → List ProjectString
each_source table name d = if is_some (as_array d) then flat_map (entry_source table name) (listed (Some d)) else entry_source table name d

-- what an entry of Poetry's table with this path asks for
unfoldable pub entry_sources : List ℕ → List ℕ × Data → List ProjectString
entry_sources table e = if is_package_name e.0 then each_source table e.0 e.1 else []

-- the entries of the table
abbrev pub tool_table : List ℕ → Option Data → List ProjectString
tool_table table value = flat_map (entry_sources table) (entries value)

-- what uv adds to the group `dev`
abbrev pub dev_sources : Option Data → List ProjectString
dev_sources uv = array_sources (codes "tool.uv.") (codes "dev-dependencies") (Group (codes "dev")) (inside (codes "dev-dependencies") uv)

-- the item is an editable of PDM
abbrev pub is_editable : Data → Bool
is_editable d = option_map_or (opens 45) (as_str d) false

-- the path of the table of what a group of Poetry asks for
abbrev pub group_path : List ℕ → List ℕ
group_path name = key_path (codes "tool.poetry.group.") name ++ codes "dependencies."

-- what an entry of a table of groups asks for: of Poetry, whose groups are tables with one for what they ask for; or of PDM, whose groups are arrays of
-- requirements, unless one is an editable
abbrev pub tool_group : GroupTool → List ℕ × Data → List ProjectString
tool_group of_tool.Poetry e = tool_table (group_path e.0) (get (codes "dependencies") e.1)
tool_group of_tool.Pdm e = if list_any is_editable (listed (Some e.1)) then unread cause.Editable else array_sources (codes "tool.pdm.dev-dependencies.") e.0 (Group (normal e.0)) (Some e.1)

-- the groups of such a table
abbrev pub tool_groups : GroupTool → Option Data → List ProjectString
tool_groups tool value = flat_map (tool_group tool) (entries value)

-- ---- all tables of tools

-- what Poetry's tables ask for ("Dependencies and dev-dependencies", "Dependency groups" of Poetry)
abbrev pub poetry_sources : Option Data → List ProjectString
poetry_sources poetry = tool_table (codes "tool.poetry.dependencies.") (inside (codes "dependencies") poetry)
    ++ (tool_table (codes "tool.poetry.dev-dependencies.") (inside (codes "dev-dependencies") poetry)
    ++ tool_groups of_tool.Poetry (inside (codes "group") poetry))

-- the table is not read, if there is one
abbrev pub unread_table : Option Data → List ProjectString
unread_table value = if is_some value then unread cause.OtherTable else []

-- the tables of Pixi
abbrev pub unread_tables : Option Data → List ProjectString
unread_tables tool = unread_table (inside (codes "dependencies") (inside (codes "pixi") tool))
    ++ unread_table (inside (codes "pypi-dependencies") (inside (codes "pixi") tool))

-- those of Setuptools and Flit
abbrev pub unread_fields : Option Data → List ProjectString
unread_fields tool = unread_table (inside (codes "dependencies") (inside (codes "dynamic") (inside (codes "setuptools") tool)))
    ++ (unread_table (inside (codes "optional-dependencies") (inside (codes "dynamic") (inside (codes "setuptools") tool)))
    ++ (unread_table (inside (codes "requires") (inside (codes "metadata") (inside (codes "flit") tool)))
    ++ unread_table (inside (codes "requires-extra") (inside (codes "metadata") (inside (codes "flit") tool)))))

-- those of the environments of Hatch, and of the group of Rye
abbrev pub unread_environments : Option Data → List ProjectString
unread_environments tool = unread_table (inside (codes "envs") (inside (codes "hatch") tool)) ++ unread_table (inside (codes "dev-dependencies") (inside (codes "rye") tool))

-- what uv and PDM add to groups
abbrev pub added_sources : Option Data → List ProjectString
added_sources tool = dev_sources (inside (codes "uv") tool) ++ tool_groups of_tool.Pdm (inside (codes "dev-dependencies") (inside (codes "pdm") tool))

-- the requirements of uv that hold wherever a package is asked for: its constraints, and its overrides, which replace what asks for it
abbrev pub constraint_sources : Option Data → List ProjectString
constraint_sources uv = array_sources (codes "tool.uv.") (codes "constraint-dependencies") Constraint (inside (codes "constraint-dependencies") uv)
    ++ array_sources (codes "tool.uv.") (codes "override-dependencies") Constraint (inside (codes "override-dependencies") uv)

-- what tables of tools ask for, and which are not read
abbrev pub tool_sources : Option Data → List ProjectString
tool_sources tool = poetry_sources (inside (codes "poetry") tool) ++ (added_sources tool ++ (constraint_sources (inside (codes "uv") tool) ++ (unread_tables tool ++ (unread_fields tool ++ unread_environments tool))))

-- the strings as they are written. Those of an included group stand in that group alone
abbrev pub written_sources : Members → List ProjectString
written_sources document = table_faults document
    ++ (table_sources (get_member (codes "project") document)
    ++ (dynamic_sources (get_member (codes "project") document)
    ++ (flat_map (group_sources (group_names document)) (groups_table document)
    ++ (tool_sources (get_member (codes "tool") document)
    ++ build_sources document))))

-- the name of the project as it is written, by PEP 621 or as Poetry has it
abbrev pub written_name : Members → Option (List ℕ)
written_name document = option_or (text_in (inside (codes "name") (get_member (codes "project") document))) (text_in (inside (codes "name") (inside (codes "poetry") (get_member (codes "tool") document))))

-- its normal form, if it has a name
abbrev pub project_names : Members → List (List ℕ)
project_names document = option_to_list (option_map normal (written_name document))

-- ---- extras that a project asks itself for (PEP 621, "dependencies/optional-dependencies"; PEP 508, "Extras")

-- the names of its extras, by PEP 621 or as Poetry has them
abbrev pub extra_names : Members → List (List ℕ)
extra_names document = entry_names (entries (inside (codes "optional-dependencies") (get_member (codes "project") document)))
    ++ entry_names (entries (inside (codes "extras") (inside (codes "poetry") (get_member (codes "tool") document))))

-- the table `project` does not have them all (PEP 621, "dynamic")
abbrev pub has_dynamic_extras : Members → Bool
has_dynamic_extras document = list_any (λ (d : Data). option_map_or (bytes_eq (codes "optional-dependencies")) (as_str d) false) (listed (inside (codes "dynamic") (get_member (codes "project") document)))

-- the names by which a project whose extras are known asks itself
abbrev pub own_names : Members → List (List ℕ)
own_names document = if has_dynamic_extras document then [] else project_names document

-- the string begins with one of these names, and names extras
abbrev pub asks_itself : List (List ℕ) → List ℕ → Bool
asks_itself names text = nat_lt 0 (length (string_extras text)) && list_any (bytes_eq (normal (name_of text))) names

-- an extra includes those that a string in it always asks for
abbrev pub asker_in : List ℕ → List ℕ → Option (List ℕ)
asker_in name text = if is_conditional text then None else Some name

-- the section of a string that asks the project itself
abbrev pub own_section : Section → List ℕ → Section
own_section (Extra name) text = OwnExtras (asker_in name text) (map normal (string_extras text))
own_section Dependencies text = OwnExtras None (map normal (string_extras text))
own_section (Group name) text = OwnExtras None (map normal (string_extras text))
own_section section text = section

-- a string of a project with these names
abbrev pub own_string : List (List ℕ) → ProjectString → ProjectString
own_string names s = record { section = if asks_itself names s.text then own_section s.section s.text else s.section; text = s.text }

-- the strings of `pyproject.toml`
abbrev pub sources : Members → List ProjectString
sources document = map (own_string (own_names document)) (written_sources document)

-- the name that a requirement begins with (PEP 508, "Grammar"), in its normal form
abbrev pub leading_name : Option (List ℕ) → List (List ℕ)
leading_name None = []
leading_name (Some text) = normal (lead is_name_byte text) ∷ []

-- the names of PDM's table of overrides, and those that it leaves out of its lock ("Exclude specific packages and their dependencies from the lock
-- file" of PDM)
abbrev pub pdm_names : Option Data → List (List ℕ)
pdm_names resolution =
    entry_names (entries (inside (codes "overrides") resolution)) ++ flat_map (λ (d : Data). leading_name (as_str d)) (listed (inside (codes "excludes") resolution))

-- the names whose versions the project sets itself, whatever others require: of uv's overrides, which are requirements, and those of PDM
abbrev pub overridden_names : Members → List (List ℕ)
overridden_names document =
    let tool : Option Data = get_member (codes "tool") document in
    flat_map (λ (d : Data). leading_name (as_str d)) (listed (inside (codes "override-dependencies") (inside (codes "uv") tool)))
    ++ pdm_names (inside (codes "resolution") (inside (codes "pdm") tool))

-- the document has this table of a tool
abbrev pub has_tool : List ℕ → Members → Bool
has_tool name document = is_some (inside name (get_member (codes "tool") document))

-- the tool of the project installs its groups with its dependencies, as uv and Poetry do; by PEP 735 a group stands alone
abbrev pub has_group_tool : Members → Bool
has_group_tool document = has_tool (codes "uv") document || has_tool (codes "poetry") document
