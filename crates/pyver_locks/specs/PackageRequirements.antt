-- What locked packages require, always and for their extras, and what `uv.lock` says that the project in its folder requires.
use Rattle.std.specs.Prelude.{ℕ, List, ◌++◌, Option, Some, None, codes, if◌then◌else◌, option_map, ◌&&◌, Bool, not, [], ◌∷◌, false, true, map, ◌||◌, is_some, bytes_eq}
use Rattle.std.specs.List.{flat_map}
use Rattle.std.specs.Option.{unwrap_or, option_map_or}
use Rattle.pep440_pick.specs.Names.{is_name, is_name_byte, normal}
use Rattle.pep440_pick.specs.RequirementReading.{split_at_byte}
use Rattle.pep440_rs.specs.Blanks.{opens}
use Rattle.pep440_version.specs.Changes.ChangeWords.{after}
use Rattle.pep440_version.specs.Reading.{lead, past}
use Rattle.toml.specs.Data.{Data, as_str, get}
use Rattle.pyver_locks.specs.KnownEnvironments.{holds_everywhere}
use Rattle.pyver_locks.specs.LockContents.{LockedRequirement, LockParts, LockedExtra}
use Rattle.pyver_locks.specs.declared.lock_kind.LockKind.{LockKind}
use Rattle.pyver_locks.specs.declared.lock_kind.LockKind.TheVariants.{Pylock, Uv}
use Rattle.pyver_projects.specs.ProjectStrings.{entries, inside, listed, text_in, texts_listed}
use Rattle.pyver_projects.specs.RequirementStrings.{is_conditional, lacks, poetry_list, string_extras, cut_at}

-- the name and the version of a package
abbrev pub package_text : List ℕ → Option (List ℕ) → List ℕ
package_text name None = name
package_text name (Some version) = name ++ (codes " " ++ version)

-- ----

-- the key of an extra of a package, by the normal forms of both names
abbrev pub extra_key : List ℕ → List ℕ → List ℕ
extra_key name extra = name ++ (codes "[" ++ extra)

-- what follows the extras of a name, if it has some
abbrev pub past_extras : List ℕ → List ℕ
past_extras rest = if opens 91 rest then unwrap_or (option_map (λ p. p.1) (split_at_byte 93 rest)) rest else rest

-- a string that begins with a name (PEP 508), and has no marker and no URL
abbrev pub is_plain_string : List ℕ → Bool
is_plain_string text = is_name (lead is_name_byte text) && not (is_conditional text)

module _ (line : ℕ) (requirer : List ℕ) where
  -- a requirement of this name with these extras and this list
  abbrev pub requirement : List ℕ → List (List ℕ) → List ℕ → LockedRequirement
  requirement name extras list = record { line = line; requirer = requirer; name = name; extras = extras; list = list; is_reference = false }

  -- a requirement of this name with these extras, if it has a list
  abbrev pub requirement_in : List ℕ → List (List ℕ) → Option (List ℕ) → List LockedRequirement
  requirement_in name extras None = []
  requirement_in name extras (Some list) = requirement name extras (poetry_list list) ∷ []

  -- a requirement with these extras and this list, if it has a name
  abbrev pub named_requirement : Option (List ℕ) → List (List ℕ) → List ℕ → List LockedRequirement
  named_requirement None extras list = []
  named_requirement (Some name) extras list = requirement name extras list ∷ []

  -- PDM's requirement: a string, unless it has a marker or a URL
  abbrev pub string_requirement : List ℕ → List LockedRequirement
  string_requirement text = if is_plain_string text then requirement (lead is_name_byte text) (string_extras text) (past_extras (past is_name_byte text)) ∷ [] else []

  abbrev pub requirement_of_text : Option (List ℕ) → List LockedRequirement
  requirement_of_text None = []
  requirement_of_text (Some text) = string_requirement text

  -- an item of uv's `requires-dist`, or of an array `dependencies`, unless it has a marker
  abbrev pub item_requirements : Data → List LockedRequirement
  item_requirements d = requirement_of_text (as_str d)
      ++ (if lacks (codes "marker") d then named_requirement (text_in (get (codes "name") d)) (texts_listed (get (codes "extra") d)) (unwrap_or (text_in (get (codes "specifier") d)) []) else [])

  -- Poetry's requirement of this name: a list, or a table with one, unless it has markers or is optional
  abbrev pub version_requirements : List ℕ → Data → List LockedRequirement
  version_requirements name d = requirement_in name [] (as_str d)
      ++ (if lacks (codes "markers") d && lacks (codes "optional") d then requirement_in name (texts_listed (get (codes "extras") d)) (text_in (get (codes "version") d)) else [])

  -- a member of Poetry's `dependencies`: such a requirement, or an array of them
  abbrev pub member_requirements : List ℕ × Data → List LockedRequirement
  member_requirements e = version_requirements e.0 e.1 ++ flat_map (version_requirements e.0) (listed (Some e.1))

  -- a reference to a package, if it has a name
  abbrev pub reference_to : Option (List ℕ) → List LockedRequirement
  reference_to None = []
  reference_to (Some name) = record { line = line; requirer = requirer; name = name; extras = []; list = []; is_reference = true } ∷ []

  abbrev pub reference : Data → List LockedRequirement
  reference d = reference_to (text_in (get (codes "name") d))

  -- the requirements of PEP 751, and of PDM in `pylock.toml`
  abbrev pub pylock_requirements : Data → List LockedRequirement
  pylock_requirements d = flat_map reference (listed (get (codes "dependencies") d))
      ++ flat_map item_requirements (listed (inside (codes "dependencies") (inside (codes "pdm") (get (codes "tool") d))))

  -- the requirements of uv, of uv and PDM, and of Poetry
  abbrev pub tool_requirements : Data → List LockedRequirement
  tool_requirements d = flat_map item_requirements (listed (inside (codes "requires-dist") (get (codes "metadata") d)))
      ++ (flat_map item_requirements (listed (get (codes "dependencies") d))
      ++ flat_map member_requirements (entries (get (codes "dependencies") d)))

  -- the requirements in the table of a package of a lock of this kind
  abbrev pub table_requirements : LockKind → Data → List LockedRequirement
  table_requirements Pylock d = pylock_requirements d
  table_requirements kind d = tool_requirements d

module _ (parts : LockParts) where
  -- the marker, if there is one, holds wherever all parts are installed
  abbrev pub is_everywhere : Option Data → Bool
  is_everywhere None = true
  is_everywhere (Some d) = option_map_or (holds_everywhere parts) (as_str d) false

  -- the package is locked for each environment: it has no markers as Poetry and uv write them, and one of PDM or PEP 751 holds everywhere
  abbrev pub is_unconditional : Data → Bool
  is_unconditional d = lacks (codes "markers") d && (is_everywhere (get (codes "marker") d) && lacks (codes "resolution-markers") d)

-- the requirements of a package with this name, if it has one
abbrev pub requirements_by : LockKind → ℕ → Option (List ℕ) → Data → List LockedRequirement
requirements_by kind line None d = []
requirements_by kind line (Some name) d = table_requirements line (package_text name (text_in (get (codes "version") d))) kind d

-- the requirements of the package on this line, if it is locked for each environment
abbrev pub requirements_from : LockKind → LockParts → ℕ × Data → List LockedRequirement
requirements_from kind parts e = if is_unconditional parts e.1 then requirements_by kind e.0 (text_in (get (codes "name") e.1)) e.1 else []

-- ---- what packages require for their extras

-- the list in a string of Poetry's extras, which stands in parentheses
abbrev pub without_parentheses : List ℕ → List ℕ
without_parentheses list = option_map_or (λ inner. (cut_at 41 inner).0) (after (codes " (") list) list

module _ (line : ℕ) (requirer : List ℕ) where
  -- a requirement for the extra with this key
  abbrev pub for_extra : List ℕ → LockedRequirement → LockedExtra
  for_extra key q = record { key = key; requirement = q }

  -- such a string, unless it has a marker or a URL
  abbrev pub extra_string : List ℕ → List ℕ → List LockedExtra
  extra_string key text = if is_plain_string text then for_extra key (requirement line requirer (lead is_name_byte text) (string_extras text) (poetry_list (without_parentheses (past_extras (past is_name_byte text))))) ∷ [] else []

  -- an item of an array of Poetry's or uv's extras: a string, or a table without a marker
  abbrev pub extra_items : List ℕ → Data → List LockedExtra
  extra_items key d = option_map_or (extra_string key) (as_str d) []
      ++ (if lacks (codes "marker") d then map (for_extra key) (named_requirement line requirer (text_in (get (codes "name") d)) (texts_listed (get (codes "extra") d)) []) else [])

  -- what the package with this name, in its normal form, requires for an extra
  abbrev pub extra_requirements : List ℕ → List ℕ × Data → List LockedExtra
  extra_requirements name e = flat_map (extra_items (extra_key name (normal e.0))) (listed (Some e.1))

  -- for all extras, of Poetry and of uv
  abbrev pub all_extras : List ℕ → Data → List LockedExtra
  all_extras name d = flat_map (extra_requirements (normal name)) (entries (get (codes "extras") d)) ++ flat_map (extra_requirements (normal name)) (entries (get (codes "optional-dependencies") d))

-- of a package with this name, if it has one
abbrev pub extras_by : ℕ → Option (List ℕ) → Data → List LockedExtra
extras_by line None d = []
extras_by line (Some name) d = all_extras line (package_text name (text_in (get (codes "version") d))) name d

-- of the package on this line, if it is locked for each environment
abbrev pub extras_from : LockParts → ℕ × Data → List LockedExtra
extras_from parts e = if is_unconditional parts e.1 then extras_by e.0 (text_in (get (codes "name") e.1)) e.1 else []

-- the keys of the extras that a requirement asks for
abbrev pub asked_keys : LockedRequirement → List (List ℕ)
asked_keys q = map (extra_key (normal q.name)) (map normal q.extras)

-- ---- what uv writes that the project in the folder of its lock requires: each requirement of its dependencies and extras, and of each group with what
-- that includes (uv, "Project structure", "The lockfile")

-- the requirement is for a project in a folder, as one of the workspace
abbrev pub has_folder : Data → Bool
has_folder d = is_some (get (codes "directory") d) || (is_some (get (codes "editable") d) || (is_some (get (codes "virtual") d) || is_some (get (codes "workspace") d)))

-- the requirement is not for versions of an index (uv, "Dependency sources")
abbrev pub has_own_source : Data → Bool
has_own_source d = is_some (get (codes "git") d) || (is_some (get (codes "url") d) || (is_some (get (codes "path") d) || has_folder d))

module _ (line : ℕ) (requirer : List ℕ) where
  abbrev pub named_entry : Data → Option (List ℕ) → List LockedRequirement
  named_entry d None = []
  named_entry d (Some name) = record { line = line; requirer = requirer; name = name; extras = texts_listed (get (codes "extras") d); list = unwrap_or (text_in (get (codes "specifier") d)) []; is_reference = has_own_source d } ∷ []

  -- an item, if it has a name. Of one with a source of its own uv compares no list
  abbrev pub entry : Data → List LockedRequirement
  entry d = named_entry d (text_in (get (codes "name") d))

  -- those of a group
  abbrev pub group_entries : List ℕ × Data → List LockedRequirement
  group_entries e = flat_map entry (listed (Some e.1))

  -- those in this table `metadata` of a package
  abbrev pub metadata_entries : Option Data → List LockedRequirement
  metadata_entries metadata = flat_map entry (listed (inside (codes "requires-dist") metadata)) ++ flat_map group_entries (entries (inside (codes "requires-dev") metadata))

abbrev pub is_dot : Option (List ℕ) → Bool
is_dot path = option_map_or (bytes_eq (codes ".")) path false

-- the package is the project in the folder of the lock
abbrev pub is_own_package : Data → Bool
is_own_package d = is_dot (text_in (inside (codes "editable") (get (codes "source") d))) || is_dot (text_in (inside (codes "virtual") (get (codes "source") d)))

abbrev pub entries_by : ℕ → Option (List ℕ) → Data → List LockedRequirement
entries_by line None d = []
entries_by line (Some name) d = metadata_entries line (package_text name (text_in (get (codes "version") d))) (get (codes "metadata") d)

-- what the package on this line of a lock of this kind requires, if it is that project
abbrev pub entries_from : LockKind → ℕ × Data → List LockedRequirement
entries_from Uv e = if is_own_package e.1 then entries_by e.0 (text_in (get (codes "name") e.1)) e.1 else []
entries_from kind e = []
