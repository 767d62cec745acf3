-- Locked packages beside their files and beside one another: the versions in the names of files, of wheels (PEP 427, "File name convention") and of
-- archives of sources (PEP 625, "Specification"); and packages of one name. By PEP 751 ("Specification") at most one of these is installed, so
-- that their markers differ, as in Poetry's and PDM's locks; uv names a package by its source, too, if another one has its name.
use Rattle.std.specs.Prelude.{ℕ, List, Bool, ◌==◌, [], ◌∷◌, if◌then◌else◌, Option, codes, option_map, ◌-◌, Some, None, length, nat_eq, take, option_and_then, unwrap_or, ◌++◌, bytes_eq, option_to_list, ◌||◌, true, false, is_some, ◌&&◌, not, count_by, nat_lt, get_or}
use Rattle.std.specs.List.{list_any, ends_with, flat_map}
use Rattle.std.specs.Option.{option_or, option_map_or}
use Rattle.pep440_pick.specs.Names.{same_name, normal}
use Rattle.pep440_pick.specs.RequirementReading.{split_at_byte}
use Rattle.toml.specs.Data.{Data, get, Members, get_member}
use Rattle.pyver_locks.specs.LockContents.{LockedFile, LockFault, PackageCondition}
use Rattle.pyver_locks.specs.PackageRequirements.{package_text}
use Rattle.pyver_locks.specs.declared.lock_kind.LockKind.{LockKind}
use Rattle.pyver_locks.specs.declared.lock_kind.LockKind.TheVariants.{Pdm, Poetry, Pylock, Unknown, Uv}
use Rattle.pyver_projects.specs.ProjectStrings.{text_in, listed, inside, is_text_or_none, is_table_or_none, header_lines, is_array_or_none}
use Rattle.pyver_projects.specs.RequirementStrings.{lacks, poetry_list}

-- ---- the name of a file

abbrev pub has_slash : List ℕ → Bool
has_slash path = list_any (λ b. b == 47) path

-- what stands after the last `/`, or all
abbrev pub last_section : List ℕ → List ℕ
last_section [] = []
last_section (b ∷ rest) = if has_slash (b ∷ rest) then last_section rest else b ∷ rest

-- where a file is said to be: at one of these keys, the first that has a string
abbrev pub file_path : Data → Option (List ℕ)
file_path d = option_or (text_in (get (codes "file") d)) (option_or (text_in (get (codes "name") d)) (option_or (text_in (get (codes "url") d)) (text_in (get (codes "path") d))))

abbrev pub file_name : Data → Option (List ℕ)
file_name d = option_map last_section (file_path d)

-- ---- the version in it

-- the text before the ending, if it ends so
abbrev pub without_ending : List ℕ → List ℕ → Option (List ℕ)
without_ending ending text = if ends_with nat_eq text ending then Some (take (length text - length ending) text) else None

-- the version of a wheel, of what follows its project and a dash: what stands before the next dash
abbrev pub wheel_version : List ℕ → Option (List ℕ)
wheel_version rest = option_map (λ p. p.0) (option_and_then (split_at_byte 45) (without_ending (codes ".whl") rest))

-- the version of an archive of sources, of what follows its project and a dash
abbrev pub archive_version : List ℕ → Option (List ℕ)
archive_version rest = option_or (without_ending (codes ".tar.gz") rest) (without_ending (codes ".zip") rest)

-- the version, if the project has this name
abbrev pub version_of_project : List ℕ → List ℕ × List ℕ → Option (List ℕ)
version_of_project name parts = if same_name parts.0 name then option_or (wheel_version parts.1) (archive_version parts.1) else None

-- the version in the name of a file of this project, which stands before the first dash
abbrev pub file_version : List ℕ → List ℕ → Option (List ℕ)
file_version name file = option_and_then (version_of_project name) (split_at_byte 45 file)

-- the version in the name of this file, or the last one, if it has none
abbrev pub version_from : List ℕ → List ℕ → Data → List ℕ
version_from name last d = unwrap_or (option_and_then (file_version name) (file_name d)) last

-- ---- the files of a package

module _ (line : ℕ) (name version : List ℕ) where
  -- a file with this version, unless that is written as the last one was
  abbrev pub new_file : List ℕ → List ℕ → Option (List ℕ) → List LockedFile
  new_file last file None = []
  new_file last file (Some written) = if bytes_eq written last then [] else record { line = line; name = name; version = version; file = file; written = written } ∷ []

  abbrev pub named_file : List ℕ → Option (List ℕ) → List LockedFile
  named_file last None = []
  named_file last (Some file) = new_file last file (file_version name file)

  -- the files whose version is written otherwise than that of the file before; before the first stands this one
  abbrev pub files_after : List ℕ → List Data → List LockedFile
  files_after last [] = []
  files_after last (d ∷ ds) = named_file last (file_name d) ++ files_after (version_from name last d) ds

  -- the files of the table of the package, each list after the version of the package: those of Poetry and PDM, and those of uv and PEP 751
  abbrev pub files_in : Data → List LockedFile
  files_in d = files_after version (listed (get (codes "files") d))
      ++ (files_after version (listed (get (codes "wheels") d)) ++ files_after version (option_to_list (get (codes "sdist") d)))

-- those of a package that has a name and a version
abbrev pub files_by : ℕ → Option (List ℕ) → Option (List ℕ) → Data → List LockedFile
files_by line (Some name) (Some version) d = files_in line name version d
files_by line (Some name) None d = []
files_by line None version d = []

-- the source of a package is an index, as uv and Poetry write it; one without a source is from PyPI
abbrev pub is_index : Option Data → Bool
is_index None = true
is_index (Some source) = is_some (get (codes "registry") source) || option_map_or (λ t. bytes_eq t (codes "legacy")) (text_in (get (codes "type") source)) false

-- the package is from an index, whose files have names by the standards; those at a URL or a path need not
abbrev pub is_indexed : Data → Bool
is_indexed d = lacks (codes "url") d && (lacks (codes "path") d && is_index (get (codes "source") d))

-- the files of the package on this line, if it is from an index
abbrev pub files_from : ℕ × Data → List LockedFile
files_from e = if not (is_indexed e.1) then [] else files_by e.0 (text_in (get (codes "name") e.1)) (text_in (get (codes "version") e.1)) e.1

-- the normal form of the name, if it is a string
abbrev pub package_name_in : Option Data → List (List ℕ)
package_name_in value = option_to_list (option_map normal (text_in value))

abbrev pub package_name : Data → List (List ℕ)
package_name d = package_name_in (get (codes "name") d)

-- the normal forms of the names in an array
abbrev pub names_listed : Option Data → List (List ℕ)
names_listed value = flat_map (λ (d : Data). package_name_in (Some d)) (listed value)

-- ---- packages with one marker

-- the marker of a package, if it has one that is a string
abbrev pub written_marker : Data → Option (List ℕ)
written_marker d = option_or (text_in (get (codes "marker") d)) (text_in (get (codes "markers") d))

-- the marker of a package, empty without one; none if it is no string, as where Poetry has one for each group
abbrev pub marker_text : Data → Option (List ℕ)
marker_text d = if lacks (codes "marker") d && lacks (codes "markers") d then Some [] else written_marker d

-- a name in its normal form beside extras and a marker
abbrev pub marked_name : List ℕ → List (List ℕ) → List ℕ → List ℕ
marked_name name extras marker = normal name ++ (flat_map (λ e. 91 ∷ e) extras ++ (59 ∷ marker))

-- the name of a package that has one, and a marker, beside these extras: PDM has it once more for each set of extras
abbrev pub marked_names_in : Option (List ℕ) → List (List ℕ) → Option (List ℕ) → List (List ℕ)
marked_names_in (Some name) extras (Some marker) = marked_name name extras marker ∷ []
marked_names_in (Some name) extras None = []
marked_names_in None extras marker = []

abbrev pub marked_names : Data → List (List ℕ)
marked_names d = marked_names_in (text_in (get (codes "name") d)) (names_listed (get (codes "extras") d)) (marker_text d)

-- that another package has the name and the marker of the package on this line
abbrev pub twin_fault : ℕ → List ℕ → Option (List ℕ) → LockFault
twin_fault line name version = record { line = line; text = package_text name version; reason = codes "another package has this name and no other marker" }

-- a package of this name on this line, if two of these are its name, its extras and its marker
abbrev pub twin_in : List (List ℕ) → ℕ → List ℕ → Option (List ℕ) → List ℕ → List LockFault
twin_in names line name version marked =
    if nat_lt 1 (count_by (bytes_eq marked) names) then twin_fault line name version ∷ [] else []

abbrev pub twin_by : List (List ℕ) → ℕ → Option (List ℕ) → Option (List ℕ) → List (List ℕ) → Option (List ℕ) → List LockFault
twin_by names line (Some name) version extras (Some marker) = twin_in names line name version (marked_name name extras marker)
twin_by names line (Some name) version extras None = []
twin_by names line None version extras marker = []

abbrev pub twins : List (List ℕ) → ℕ × Data → List LockFault
twins names e = twin_by names e.0 (text_in (get (codes "name") e.1)) (text_in (get (codes "version") e.1)) (names_listed (get (codes "extras") e.1)) (marker_text e.1)

-- ---- dependencies without sources

-- more than one of these is the name
abbrev pub is_shared : List (List ℕ) → List ℕ → Bool
is_shared names name = nat_lt 1 (count_by (bytes_eq (normal name)) names)

-- that the package of this text on this line requires a name that more than one has
abbrev pub ambiguous_fault : ℕ → List ℕ → List ℕ → LockFault
ambiguous_fault line requirer name = record { line = line; text = requirer ++ (codes " requires " ++ name); reason = codes "more than one package has this name" }

module _ (names : List (List ℕ)) (line : ℕ) (requirer : List ℕ) where
  abbrev pub ambiguous_name : Option (List ℕ) → List LockFault
  ambiguous_name None = []
  ambiguous_name (Some name) = if is_shared names name then ambiguous_fault line requirer name ∷ [] else []

  -- an item of `dependencies`, which says neither a version nor a source if only one package has the name
  abbrev pub ambiguous_item : Data → List LockFault
  ambiguous_item d = if lacks (codes "source") d then ambiguous_name (text_in (get (codes "name") d)) else []

abbrev pub ambiguous_by : List (List ℕ) → ℕ → Option (List ℕ) → Data → List LockFault
ambiguous_by names line None d = []
ambiguous_by names line (Some name) d = flat_map (ambiguous_item names line (package_text name (text_in (get (codes "version") d)))) (listed (get (codes "dependencies") d))

-- the dependencies of the package on this line, beside those with these names
abbrev pub ambiguous : List (List ℕ) → ℕ × Data → List LockFault
ambiguous names e = ambiguous_by names e.0 (text_in (get (codes "name") e.1)) e.1

-- ---- locks

-- in its format, packages of one name have markers that differ. Poetry writes them from format 2.1 on; PDM may leave them out if it locks for
-- more than one target
abbrev pub has_markers : LockKind → Members → Bool
has_markers Pylock document = true
has_markers Poetry document = option_map_or (bytes_eq (codes "2.1")) (text_in (inside (codes "lock-version") (get_member (codes "metadata") document))) false
has_markers Pdm document = nat_lt (length (listed (inside (codes "targets") (get_member (codes "metadata") document)))) 2
has_markers Uv document = false
has_markers Unknown document = false

-- that of the one target
abbrev pub target_python : List Data → Option (List ℕ)
target_python (target ∷ []) = text_in (get (codes "requires_python") target)
target_python _ = None

-- the Pythons that a lock of this kind is for, where its packages have markers that say where they are needed
abbrev pub locked_python : LockKind → Members → Option (List ℕ)
locked_python Poetry document = if has_markers Poetry document then option_map poetry_list (text_in (inside (codes "python-versions") (get_member (codes "metadata") document))) else None
locked_python Pdm document = target_python (listed (inside (codes "targets") (get_member (codes "metadata") document)))
locked_python Pylock document = text_in (get_member (codes "requires-python") document)
locked_python kind document = None

abbrev pub condition_in : Option (List ℕ) → Option (List ℕ) → Option PackageCondition
condition_in (Some python) (Some marker) = Some (record { python = python; marker = marker })
condition_in _ _ = None

-- where a lock for these Pythons has the package, if not everywhere
abbrev pub package_condition : Option (List ℕ) → Data → Option PackageCondition
package_condition python d = condition_in python (written_marker d)

abbrev pub is_uv : LockKind → Bool
is_uv Uv = true
is_uv _ = false

-- the name of a package, for which others of the name are looked at, in `uv.lock`, else with its marker
abbrev pub counted_names : LockKind → Data → List (List ℕ)
counted_names kind d = if is_uv kind then package_name d else marked_names d

-- what is wrong with a package of a lock of this kind, that has markers or not, beside those with these names
abbrev pub faults_beside : LockKind → Bool → List (List ℕ) → ℕ × Data → List LockFault
faults_beside kind marked names e = if is_uv kind then ambiguous names e else if marked then twins names e else []

-- ---- values of other types

-- that the text of this line is wrong for this reason, unless it is right
abbrev pub fault_unless : Bool → ℕ → List ℕ → List ℕ → List LockFault
fault_unless is_right line text reason = if is_right then [] else record { line = line; text = text; reason = reason } ∷ []

-- the package on this line is a table, in which the value at the key is a string, if there is one
abbrev pub text_faults : ℕ → List ℕ → Data → List LockFault
text_faults line key d = fault_unless (is_text_or_none (get key d)) line key (codes "not a string")

abbrev pub value_faults : ℕ × Data → List LockFault
value_faults e = fault_unless (is_table_or_none (Some e.1)) e.0 (codes "package") (codes "not a table")
    ++ (text_faults e.0 (codes "name") e.1 ++ text_faults e.0 (codes "version") e.1)

-- the packages of a lock with this text are an array at this key, if they are there; else the fault is on the line of the header of a table, or on
-- the first line
abbrev pub array_faults : List ℕ → List ℕ → Option Data → List LockFault
array_faults text key value =
    fault_unless (is_array_or_none value) (get_or (header_lines (codes "[" ++ (key ++ codes "]")) text) 0 1) key (codes "not an array of tables")

-- what is wrong with a package by itself and beside others
abbrev pub package_faults : LockKind → Bool → List (List ℕ) → ℕ × Data → List LockFault
package_faults kind marked names e = value_faults e ++ faults_beside kind marked names e
