-- What a lock of each format has.
use Rattle.std.specs.Prelude.{List, [], get_or, ℕ, ◌+◌, ◌∷◌, None, Option, Some, codes, Bool, bytes_eq, not, ◌&&◌, if◌then◌else◌, length, nat_lt, ◌==◌, ◌++◌, is_none}
use Rattle.std.specs.List.{list_any, flat_map}
use Rattle.std.specs.Option.{option_or}
use Rattle.pep440_pick.specs.Names.{normal}
use Rattle.toml.specs.Data.{Data, get, Members, get_member}
use Rattle.pyver_locks.specs.LockContents.{LockedPackage, PackageCondition, LockParts, LockedRequirement, LockedExtra, LockContents, LockFault}
use Rattle.pyver_locks.specs.LockedFiles.{names_listed, package_condition, files_from, package_faults, counted_names, has_markers, locked_python, array_faults}
use Rattle.pyver_locks.specs.PackageRequirements.{is_own_package, asked_keys, entries_from, extras_from, requirements_from}
use Rattle.pyver_locks.specs.declared.lock_kind.LockKind.{LockKind}
use Rattle.pyver_locks.specs.declared.lock_kind.LockKind.TheVariants.{Pdm, Pylock, Poetry, Uv}
use Rattle.pyver_projects.specs.ProjectStrings.{text_in, inside, texts_listed, Inclusion, inclusions_by, includes, header_lines, listed}
use Rattle.pyver_projects.specs.ProjectTables.{condition}

-- ---- locks

-- the tables from a number on, each with the number of the line of its header, or with 1 if there are not so many headers
abbrev pub numbered_tables : List ℕ → ℕ → List Data → List (ℕ × Data)
numbered_tables lines i [] = []
numbered_tables lines i (d ∷ ds) = (get_or lines i 1, d) ∷ numbered_tables lines (i + 1) ds

-- a package on this line, if it has a name
abbrev pub package_in : ℕ → Option (List ℕ) → Option (List ℕ) → Option PackageCondition → List LockedPackage
package_in line None version condition = []
package_in line (Some name) version condition = record { line = line; name = name; version = version; condition = condition } ∷ []

-- of a lock for these Pythons, if they are known
abbrev pub package_from : Option (List ℕ) → ℕ × Data → List LockedPackage
package_from python e = package_in e.0 (text_in (get (codes "name") e.1)) (text_in (get (codes "version") e.1)) (package_condition python e.1)

-- the group is one of these
abbrev pub is_listed_part : List (List ℕ) → List ℕ → Bool
is_listed_part parts name = list_any (bytes_eq name) parts

-- it is none of these: PEP 751 has such a group for the dependencies of a project. PDM always says `default`, and names it if it has them
abbrev pub is_new_group : List (List ℕ) → List ℕ → Bool
is_new_group named name = not (bytes_eq name (codes "default")) && not (is_listed_part named name)

-- a lock that names these groups and extras, and installs these groups by default, has the dependencies, unless it installs only named ones; one that
-- names none may have all
abbrev pub has_default : List (List ℕ) → List (List ℕ) → Bool
has_default named defaults = if length defaults == 0 then nat_lt 0 (length named) else list_any (is_new_group named) defaults

-- these, and `default` for the dependencies of the project
abbrev pub with_default : List (List ℕ) → List (List ℕ) → List (List ℕ)
with_default named defaults = named ++ (if has_default named defaults then codes "default" ∷ [] else [])

-- the groups and the extras of a lock (PEP 751)
abbrev pub named_parts : Members → List (List ℕ)
named_parts document = names_listed (get_member (codes "dependency-groups") document) ++ names_listed (get_member (codes "extras") document)

-- the groups that a lock names beside its packages: those of PEP 751 and of PDM, where `default` are the dependencies of the project, and each extra is one
abbrev pub part_names : LockKind → Members → List (List ℕ)
part_names Pdm document = names_listed (inside (codes "groups") (get_member (codes "metadata") document))
part_names Pylock document = with_default (named_parts document) (names_listed (get_member (codes "default-groups") document))
part_names kind document = []

-- the groups that packages name: those of Poetry, from format 2.1 on
abbrev pub package_parts : LockKind → List Data → List (List ℕ)
package_parts Poetry packages = flat_map (λ (d : Data). names_listed (get (codes "groups") d)) packages
package_parts kind packages = []

-- for which Pythons a lock of uv says that the project in its folder is, if this is one of its packages and it has no other members
abbrev pub own_python : LockKind → Members → List Data → Option (List ℕ)
own_python Uv document packages = if list_any is_own_package packages && is_none (inside (codes "members") (get_member (codes "manifest") document))
    then text_in (get_member (codes "requires-python") document) else None
own_python kind document packages = None

-- the folder with this path in that of the lock: what stands before the names of its files
abbrev pub member_folder : List ℕ → List ℕ
member_folder path = if bytes_eq path (codes ".") then [] else path ++ codes "/"

-- where a package lies that is a project in a folder
abbrev pub member_path : Data → Option (List ℕ)
member_path d = option_or (text_in (inside (codes "editable") (get (codes "source") d))) (text_in (inside (codes "virtual") (get (codes "source") d)))

-- the folder with this path, if the package with this name is one of these
abbrev pub member_by : List (List ℕ) → Option (List ℕ) → Option (List ℕ) → List (List ℕ)
member_by names (Some name) (Some path) = if list_any (bytes_eq (normal name)) names then member_folder path ∷ [] else []
member_by names (Some name) None = []
member_by names None path = []

abbrev pub member_from : List (List ℕ) → Data → List (List ℕ)
member_from names d = member_by names (text_in (get (codes "name") d)) (member_path d)

-- the folders of the members of the workspace that a lock of uv names, and has as packages (uv, "Workspaces")
abbrev pub lock_members : LockKind → Members → List Data → List (List ℕ)
lock_members Uv document packages = flat_map (member_from (names_listed (inside (codes "members") (get_member (codes "manifest") document)))) packages
lock_members kind document packages = []

-- the parts of a lock with these packages. Only one of PEP 751 has extras and groups for markers, and environments
abbrev pub lock_parts : LockKind → Members → List Data → LockParts
lock_parts kind document packages = record {
  names = part_names kind document ++ package_parts kind packages;
  extras = names_listed (get_member (codes "extras") document);
  groups = names_listed (get_member (codes "dependency-groups") document) ++ names_listed (get_member (codes "default-groups") document);
  environments = texts_listed (get_member (codes "environments") document);
  python = own_python kind document packages;
  members = lock_members kind document packages;
}

-- which extras a requirement asks for, under no key
abbrev pub plain_asks : LockedRequirement → List Inclusion
plain_asks q = inclusions_by (Some []) (asked_keys q)

-- which the requirement of an extra asks for, under the key of this
abbrev pub optional_asks : LockedExtra → List Inclusion
optional_asks o = inclusions_by (Some o.key) (asked_keys o.requirement)

abbrev pub lock_asks : List LockedRequirement → List LockedExtra → List Inclusion
lock_asks qs os = flat_map plain_asks qs ++ flat_map optional_asks os

-- what is required for an extra with such a key
abbrev pub asked_requirement : (List ℕ → Bool) → LockedExtra → List LockedRequirement
asked_requirement has o = if has o.key then o.requirement ∷ [] else []

-- or for another
abbrev pub other_extra : (List ℕ → Bool) → LockedExtra → List LockedExtra
other_extra has o = if has o.key then [] else o ∷ []

-- the extra is asked for
abbrev pub is_asked : List LockedRequirement → List LockedExtra → List ℕ → Bool
is_asked qs os = includes (lock_asks qs os) []

-- those, and what is required for the extras that they ask for
abbrev pub with_asked : List LockedRequirement → List LockedExtra → List LockedRequirement
with_asked qs os = qs ++ flat_map (asked_requirement (is_asked qs os)) os

-- what is required for other extras
abbrev pub not_asked : List LockedRequirement → List LockedExtra → List LockedExtra
not_asked qs os = flat_map (other_extra (is_asked qs os)) os

-- what the tables of packages of a lock of this kind have, each with its line, beside these parts and faults, that have markers or not, for these
-- Pythons, and are looked at beside those with these names
abbrev pub table_contents : LockKind → LockParts → List LockFault → Bool → Option (List ℕ) → List (List ℕ) → List (ℕ × Data) → LockContents
table_contents kind parts found marked python names tables = record {
  parts = parts;
  packages = flat_map (package_from python) tables;
  requirements = with_asked (flat_map (requirements_from kind parts) tables) (flat_map (extras_from parts) tables);
  optional = not_asked (flat_map (requirements_from kind parts) tables) (flat_map (extras_from parts) tables);
  entries = flat_map (entries_from kind) tables;
  files = flat_map files_from tables;
  faults = found ++ flat_map (package_faults kind marked names) tables;
}

-- what a lock of this kind has in these packages, with these lines of headers, beside these faults
abbrev pub packages_contents : LockKind → List ℕ → List LockFault → Members → List Data → LockContents
packages_contents kind lines found document packages =
    table_contents kind (lock_parts kind document packages) found (has_markers kind document) (locked_python kind document) (flat_map (counted_names kind) packages) (numbered_tables lines 0 packages)

-- in those in the array of tables at this key, each under this header, of a lock with this text
abbrev pub contents : LockKind → List ℕ → List ℕ → List ℕ → Members → LockContents
contents kind header text key document = packages_contents kind (header_lines header text) (array_faults text key (get_member key document)) document (listed (get_member key document))
