-- What is found in documents: in each by itself, and in each project beside each lock.
use Rattle.std.specs.Prelude.{List, [], ◌∷◌, Option, Some, None, Bool, bytes_eq, false, ◌&&◌, is_some, if◌then◌else◌, codes, ◌||◌, is_none, ◌++◌, ℕ, map, not, true, length, nat_lt, ◌≡◌}
use Rattle.std.specs.List.{flat_map, list_any, list_all, find, filter, zip, AllZip}
use Rattle.std.specs.Ordering.{eq_by_cmp}
use Rattle.pep440_ranges.specs.RangeSegments.{contains}
use Rattle.pep440_rs.specs.Bounds.{Segments}
use Rattle.pep440_rs.specs.LiteralMatching.{list_matches_literally}
use Rattle.pep440_rs.specs.Specifiers.{Spec, spec_cmp}
use Rattle.pep440_version.specs.Key.{record_cmp}
use Rattle.pep440_version.specs.Record.{Record}
use Rattle.toml.specs.Data.{Members, Data, as_str, get_member}
use Rattle.pyver_documents.specs.Meanings.{StringReading, LockedReading, DocumentReading, IsBroken, IsLock, IsProject, ExtraReading, Document, IsDocumentReading}
use Rattle.pyver_documents.specs.Together.{is_standard, project_python, FindsOfParts}
use Rattle.pyver_documents.specs.declared.document_kind.DocumentKind.{DocumentKind}
use Rattle.pyver_documents.specs.declared.document_kind.DocumentKind.TheVariants.{Lock, Project}
use Rattle.pyver_findings.specs.Demands.{Demand}
use Rattle.pyver_findings.specs.FileLines.{Finding, FileLine, Conflicting, NoRequirement, File}
use Rattle.pyver_findings.specs.LineMeanings.{LineMeaning}
use Rattle.pyver_findings.specs.MarkedConflicts.{FindsNothing, FindsOfEach}
use Rattle.pyver_findings.specs.NamedFiles.{folder}
use Rattle.pyver_findings.specs.Reports.{invalid_in, left_out_in, Report, demands_in, joined_report, empty_report}
use Rattle.pyver_findings.specs.declared.finding.Conflict.TheVariants.{PinOutside}
use Rattle.pyver_locks.specs.KnownEnvironments.{is_left_out_in, environment_name, known_environments, python_record, python_text}
use Rattle.pyver_locks.specs.LockContents.{LockParts}
use Rattle.pyver_locks.specs.Locks.{is_listed_part}
use Rattle.pyver_locks.specs.PackageRequirements.{extra_key}
use Rattle.pyver_locks.specs.declared.known_environment.KnownEnvironment.{KnownEnvironment}
use Rattle.pyver_locks.specs.declared.lock_kind.LockKind.{LockKind}
use Rattle.pyver_locks.specs.declared.lock_kind.LockKind.TheVariants.{Uv, Poetry, Pdm, Pylock}
use Rattle.pyver_projects.specs.ProjectStrings.{Dependencies, Entry, Extra, Group, Section, Constraint, Inclusion, inclusions_by, includes, key_line, number_or_one, OwnExtras, inside, listed, text_in}
use Rattle.pyver_projects.specs.ProjectTables.{has_tool}
use Rattle.pyver_requirements.specs.declared.cause.Cause.{Cause}

-- ---- a document by itself

-- what is wrong with a string by itself
abbrev pub invalid_string : StringReading → List Finding
invalid_string x = invalid_in x.meaning

-- the finding, if there is one
abbrev pub found_or_none : Option Finding → List Finding
found_or_none None = []
found_or_none (Some f) = f ∷ []

-- what is wrong with a package by itself
abbrev pub invalid_package : LockedReading → List Finding
invalid_package y = found_or_none y.invalid

-- why a string is left out
abbrev pub left_out_string : StringReading → List Cause
left_out_string x = left_out_in x.meaning

-- the package has the name of the requirement
abbrev pub has_name : Demand → LockedReading → Bool
has_name a y = bytes_eq a.name y.name

-- the list contains the version, if there is one
abbrev pub accepts_version : List Spec → Option Record → Bool
accepts_version list None = false
accepts_version list (Some v) = list_matches_literally list v

-- the package has the name of the requirement, and a version that its list contains
abbrev pub is_allowed : Demand → LockedReading → Bool
is_allowed a y = has_name a y && accepts_version a.specifiers y.version

-- the line of a package with a version
abbrev pub locked_line : LockedReading → List FileLine
locked_line y = if is_some y.version then y.line ∷ [] else []

-- the line, if it has the name of the requirement
abbrev pub named_line : Demand → LockedReading → List FileLine
named_line a y = if has_name a y then locked_line y else []

-- the line of a requirement beside those of versions that it excludes, if there are some
abbrev pub outside : FileLine → List FileLine → List Finding
outside line [] = []
outside line (other ∷ others) = Conflicting PinOutside (line ∷ (other ∷ others)) None ∷ []

-- the list of the requirement contains none of the locked versions of its name
abbrev pub excluded : Demand → List LockedReading → List Finding
excluded a ys = if list_any (is_allowed a) ys then [] else outside a.line (flat_map (named_line a) ys)

-- the lock has no package of the name of the requirement
abbrev pub absent : List LockedReading → Demand → List Finding
absent ys a = if list_any (has_name a) ys then [] else NoRequirement a.line (codes "the lock has no package of this name") 0 ∷ []

-- the requirement with this list may take the package: the list contains its version, or none is known
abbrev pub may_take : List Spec → LockedReading → Bool
may_take list y = is_none y.version || accepts_version list y.version

-- in the environment the lock with these parts leaves out all of these
abbrev pub leaves_out_all : LockParts → List LockedReading → KnownEnvironment → Bool
leaves_out_all parts taken k = list_all (λ (y : LockedReading). is_left_out_in parts k y.condition) taken

-- that no package meets the requirement on this line in the environment
abbrev pub lack_in : FileLine → KnownEnvironment → Finding
lack_in line k = NoRequirement line (codes "no locked package meets it on " ++ environment_name k) 0

-- in this one, if there is one
abbrev pub lack_finding : FileLine → Option KnownEnvironment → List Finding
lack_finding line None = []
lack_finding line (Some k) = lack_in line k ∷ []

-- the first environment in which the lock leaves out all packages that a requirement on this line may take, if there are some
abbrev pub partly_locked : LockParts → FileLine → List LockedReading → List Finding
partly_locked parts line [] = []
partly_locked parts line (y ∷ taken) = lack_finding line (find (leaves_out_all parts (y ∷ taken)) known_environments)

-- the packages that the requirement may take
abbrev pub taken_packages : List LockedReading → Demand → List LockedReading
taken_packages ys a = filter (may_take a.specifiers) (filter (has_name a) ys)

-- the keys of the extras that the requirement asks for
abbrev pub demand_keys : Demand → List (List ℕ)
demand_keys a = map (extra_key a.name) a.extras

-- each of these is there
abbrev pub has_keys : List (List ℕ) → List (List ℕ) → Bool
has_keys found keys = list_all (λ (k : List ℕ). list_any (bytes_eq k) found) keys

-- the extras are the same, whatever the order
abbrev pub same_extras : List (List ℕ) → List (List ℕ) → Bool
same_extras extras other = has_keys other extras && has_keys extras other

-- a requirement that is not there, for this reason
abbrev pub unmatched : List ℕ → Demand → Finding
unmatched reason a = NoRequirement a.line reason 0

-- in some environment none of these packages is there, if the requirement has no marker
abbrev pub lack_without_marker : LockParts → Demand → List LockedReading → List Finding
lack_without_marker parts a needed = if is_none a.marker then partly_locked parts a.line needed else []

-- the lock has no package of the name of the requirement; or, if that has no marker, in some environment none that it may take
abbrev pub unlocked : LockParts → List LockedReading → Demand → List Finding
unlocked parts ys a = absent ys a ++ lack_without_marker parts a (taken_packages ys a)

-- a tool that builds or installs, which older releases of Poetry do not lock
abbrev pub is_installer : List ℕ → Bool
is_installer name = bytes_eq name (codes "setuptools") || (bytes_eq name (codes "distribute") || (bytes_eq name (codes "pip") || bytes_eq name (codes "wheel")))

abbrev pub is_project_reading : DocumentReading → Bool
is_project_reading (IsProject t together names overridden xs) = true
is_project_reading (IsLock parts python ys ms os es fs) = false
is_project_reading (IsBroken f) = false

-- the names of a project
abbrev pub names_read : DocumentReading → List (List ℕ)
names_read (IsProject t together names overridden xs) = names
names_read (IsLock parts python ys ms os es fs) = []
names_read (IsBroken f) = []

-- the names that a project overrides
abbrev pub overrides_read : DocumentReading → List (List ℕ)
overrides_read (IsProject t together names overridden xs) = overridden
overrides_read (IsLock parts python ys ms os es fs) = []
overrides_read (IsBroken f) = []

-- what is not asked of a lock though a package requires it: that it has a package of the name; or anything
pub record Excuse : Type 0 where
  pub lacks : Bool
  pub overrides : Bool

-- no lock is to have a package of this name: an installer, one of the projects, which neither Poetry nor PDM locks, and any where no project is
-- known; and nothing is asked of one that a project overrides
abbrev pub is_excused : List DocumentReading → List ℕ → Excuse
is_excused xs name = record {
  lacks = is_installer name || (not (list_any is_project_reading xs) || list_any (bytes_eq name) (flat_map names_read xs));
  overrides = list_any (bytes_eq name) (flat_map overrides_read xs);
}

module _ (excused : List ℕ → Excuse) where
  -- the lock lacks what a package requires
  abbrev pub lacking : LockParts → List LockedReading → Demand → List Finding
  lacking parts ys a = if (excused a.name).lacks then [] else unlocked parts ys a

  -- what a requirement lacks and excludes in the lock of the package that has it
  abbrev pub unmet_demand : LockParts → List LockedReading → Demand → List Finding
  unmet_demand parts ys a = if (excused a.name).overrides then [] else lacking parts ys a ++ excluded a ys

  -- what a line lacks and excludes there, if it is a requirement
  abbrev pub unmet : LockParts → List LockedReading → LineMeaning → List Finding
  unmet parts ys m = flat_map (unmet_demand parts ys) (demands_in m)

  -- the report of a document by itself: the strings or the packages count as lines
  abbrev pub own_report : DocumentReading → Report
  own_report (IsProject t together names overridden xs) = record { findings = flat_map invalid_string xs; ignored = []; lines = length xs; files = 1; left_out = flat_map left_out_string xs }
  own_report (IsLock parts python ys ms os es fs) = record { findings = flat_map invalid_package ys ++ (flat_map invalid_in fs ++ flat_map (unmet parts ys) ms); ignored = []; lines = length ys; files = 1; left_out = flat_map left_out_in ms }
  own_report (IsBroken f) = record { findings = f ∷ []; ignored = []; lines = 0; files = 1; left_out = [] }

  -- a report, and after it those of documents
  abbrev pub with_own_reports : Report → List DocumentReading → Report
  with_own_reports a [] = a
  with_own_reports a (x ∷ xs) = with_own_reports (joined_report a (own_report x)) xs

-- ---- a project beside a lock

-- the lock has what all groups need, as that of uv
abbrev pub locks_groups : LockKind → Bool
locks_groups Uv = true
locks_groups _ = false

-- the lock has what all extras need, as those of uv and Poetry
abbrev pub locks_extras : LockKind → Bool
locks_extras Poetry = true
locks_extras kind = locks_groups kind

-- the lock says which groups it has, if it names some: those of PDM and of PEP 751, of which each may lack any
abbrev pub names_groups : LockKind → List (List ℕ) → Bool
names_groups Pdm parts = nat_lt 0 (length parts)
names_groups Pylock parts = nat_lt 0 (length parts)
names_groups _ parts = false

-- the lock has what all tables of Poetry ask for
abbrev pub locks_entries : LockKind → Bool
locks_entries Poetry = true
locks_entries _ = false

-- a lock with these groups has what this part of the project needs
abbrev pub is_needed : LockKind → List (List ℕ) → Section → Bool
is_needed kind parts Dependencies = not (names_groups kind parts) || is_listed_part parts (codes "default")
is_needed kind parts (Extra name) = locks_extras kind || is_listed_part parts name
is_needed kind parts (Group name) = locks_groups kind || is_listed_part parts name
is_needed kind parts (Entry table name) = locks_entries kind
is_needed kind parts _ = false

-- the section is of a table of another tool than that of the lock: of Poetry or uv
abbrev pub is_of_other_tool : LockKind → Section → Bool
is_of_other_tool kind (Entry table name) = not (locks_entries kind)
is_of_other_tool kind Constraint = not (locks_groups kind)
is_of_other_tool kind _ = false

-- the lock is for other parts of the project: it says which groups it has, and this is none of them
abbrev pub leaves_out : LockKind → List (List ℕ) → Section → Bool
leaves_out kind parts section = is_of_other_tool kind section || (names_groups kind parts && not (is_needed kind parts section))

-- a lock, in one folder with the project or not, may have what the part needs: but not what builds the project; uv has the constraints of no other
-- project in its workspace
abbrev pub is_locked : Bool → Section → Bool
is_locked near Dependencies = true
is_locked near (Extra name) = true
is_locked near (Group name) = true
is_locked near (Entry table name) = true
is_locked near Constraint = near
is_locked near _ = false

-- a project overrides the name, and so what tables of the standard require of it
abbrev pub is_overridden : (List ℕ → Excuse) → Section → List ℕ → Bool
is_overridden excused section name = is_standard section && (excused name).overrides

module _ (kind : LockKind) (parts : LockParts) (names : List (List ℕ)) where
  -- a lock has the package, if it needs it; but not installers, nor the project itself, which by these names may ask for extras of its own
  abbrev pub missing : List LockedReading → Section → Demand → List Finding
  missing ys section a =
      if is_installer a.name then [] else (if list_any (bytes_eq a.name) names then [] else (if is_needed kind parts.names section then unlocked parts ys a else []))

  -- a lock has no other version of the package, unless it leaves the part out
  abbrev pub excluded_in : List LockedReading → Section → Demand → List Finding
  excluded_in ys section a = if leaves_out kind parts.names section then [] else excluded a ys

  module _ (excused : List ℕ → Excuse) (near : Bool) where
    -- a requirement beside the lock, which counts if it has no marker and no project overrides it
    abbrev pub compared_demand : List LockedReading → Section → Demand → List Finding
    compared_demand ys section a =
        if is_none a.marker then (if is_overridden excused section a.name then [] else missing ys section a ++ excluded_in ys section a) else []

    -- a string beside the lock
    abbrev pub compared : List LockedReading → StringReading → List Finding
    compared ys x = if is_locked near x.section then flat_map (compared_demand ys x.section) (demands_in x.meaning) else []

-- what the requirement of an extra asks for
abbrev pub extra_asks : ExtraReading → List Inclusion
extra_asks o = flat_map (λ (a : Demand). inclusions_by (Some o.key) (demand_keys a)) (demands_in o.meaning)

-- extras that strings of a project ask for, beside a lock of this kind with these parts, in one folder with it or not
module _ (kind : LockKind) (parts : LockParts) (excused : List ℕ → Excuse) (near : Bool) where
  -- the requirement always asks, and the lock is to have what it asks for
  abbrev pub asks_for_extras : Section → Demand → Bool
  asks_for_extras section a = is_none a.marker && (not (is_overridden excused section a.name) && is_needed kind parts.names section)

  -- its extras, under no key
  abbrev pub demand_asks : Section → Demand → List Inclusion
  demand_asks section a = if asks_for_extras section a then inclusions_by (Some []) (demand_keys a) else []

  -- those of a string that counts beside the lock
  abbrev pub asked_in : StringReading → List Inclusion
  asked_in x = if is_locked near x.section then flat_map (demand_asks x.section) (demands_in x.meaning) else []

  -- which extras strings ask for, and which these require
  abbrev pub project_asks : List StringReading → List ExtraReading → List Inclusion
  project_asks xs os = flat_map asked_in xs ++ flat_map extra_asks os

  -- what is lacked and excluded of what is required for an extra, if it has such a key
  abbrev pub unmet_extra : (List ℕ → Bool) → List LockedReading → ExtraReading → List Finding
  unmet_extra has ys o = if has o.key then unmet excused parts ys o.meaning else []

  -- for all extras that strings ask for
  abbrev pub unmet_extras : List LockedReading → List ExtraReading → List StringReading → List Finding
  unmet_extras ys os xs = flat_map (unmet_extra (includes (project_asks xs os) []) ys) os

-- the first document beside the second, of this kind, in one folder with it or not, if that is a project and this a lock
abbrev pub found_beside : (List ℕ → Excuse) → Bool → DocumentKind → DocumentReading → DocumentReading → List Finding
found_beside excused near (Lock kind) (IsProject t together names overridden xs) (IsLock parts python ys ms os es fs) = flat_map (compared kind parts names excused near ys) xs ++ unmet_extras kind parts excused near ys os xs
found_beside excused near kind x y = []

-- ---- what `uv.lock` says that the project in its folder requires

-- the specifiers have one operator, and versions that are equal
abbrev pub same_specifier : Spec → Spec → Bool
same_specifier s q = eq_by_cmp spec_cmp s q

-- each specifier of the first list is one of the second
abbrev pub has_each : List Spec → List Spec → Bool
has_each list other = list_all (λ (s : Spec). list_any (same_specifier s) other) list

-- the lists are the same, whatever the order
abbrev pub same_list : List Spec → List Spec → Bool
same_list list other = has_each list other && has_each other list

-- the second, in the lock, is for the first, of the project: it has the name, the extras, and the list unless it has a source of its own. Markers are not compared
abbrev pub is_same_requirement : Demand → Demand → Bool
is_same_requirement a e = bytes_eq a.name e.name && (same_extras a.extras e.extras && (is_some e.marker || same_list a.specifiers e.specifiers))

abbrev pub is_in_lock : Demand → LineMeaning → Bool
is_in_lock a m = list_any (is_same_requirement a) (demands_in m)

-- the section is of the tables that PEP 621 and PEP 735 define
abbrev pub is_declared : Section → Bool
is_declared (OwnExtras asker extras) = true
is_declared section = is_standard section

-- what a string of a project asks for that its lock is to have
abbrev pub locked_demands : StringReading → List Demand
locked_demands x = if is_declared x.section then demands_in x.meaning else []

abbrev pub is_in_project : Demand → StringReading → Bool
is_in_project e x = list_any (λ (a : Demand). is_same_requirement a e) (locked_demands x)

abbrev pub unentered_reason : List ℕ
unentered_reason = codes "the lock is out of date: it does not have this requirement"

abbrev pub unrequired_reason : List ℕ
unrequired_reason = codes "the lock is out of date: the project does not have this requirement"

module _ (names : List (List ℕ)) where
  -- a requirement of a project, but for these names, beside these in the lock
  abbrev pub unentered : List LineMeaning → Demand → List Finding
  unentered es a = if list_any (bytes_eq a.name) names then [] else (if list_any (is_in_lock a) es then [] else unmatched unentered_reason a ∷ [])

  abbrev pub unentered_in : List LineMeaning → StringReading → List Finding
  unentered_in es x = flat_map (unentered es) (locked_demands x)

  -- a requirement in its lock beside these strings. One with a source of its own may be for a URL
  abbrev pub unrequired : List StringReading → Demand → List Finding
  unrequired xs e = if list_any (bytes_eq e.name) names || is_some e.marker then [] else (if list_any (is_in_project e) xs then [] else unmatched unrequired_reason e ∷ [])

  abbrev pub unrequired_in : List StringReading → LineMeaning → List Finding
  unrequired_in xs m = flat_map (unrequired xs) (demands_in m)

-- its dependencies or its extras are not in the table (PEP 621, "dynamic")
abbrev pub is_dynamic : Option (List ℕ) → Bool
is_dynamic None = false
is_dynamic (Some field) = bytes_eq field (codes "dependencies") || bytes_eq field (codes "optional-dependencies")

abbrev pub has_dynamic : Option Data → Bool
has_dynamic project = list_any (λ (d : Data). is_dynamic (as_str d)) (listed (inside (codes "dynamic") project))

-- these tables have all that uv reads of what the project requires, and nothing that it does not read
abbrev pub is_plain_for_uv : Members → Bool
is_plain_for_uv t = is_some (text_in (inside (codes "name") (get_member (codes "project") t))) && (not (has_dynamic (get_member (codes "project") t))
    && (not (has_tool (codes "poetry") t) && not (has_tool (codes "pdm") t)))

-- the names by which a project asks for extras of its own, if uv may write what these require in place of them: where its version is not in the table
abbrev pub replaced_names : Members → List (List ℕ) → List (List ℕ)
replaced_names t names = if is_some (text_in (inside (codes "version") (get_member (codes "project") t))) then [] else names

-- the requirements of a project, but for these names, that its lock does not have, where that has some, and those that the project does not have
abbrev pub differing : List (List ℕ) → List StringReading → List LineMeaning → List Finding
differing names xs [] = []
differing names xs (m ∷ ms) = flat_map (unentered_in names (m ∷ ms)) xs ++ flat_map (unrequired_in names xs) (m ∷ ms)

-- ---- its versions of Python

-- the second numbers of the versions of CPython 3 that are and may soon be
abbrev pub python_minors : List ℕ
python_minors = 0 ∷ (1 ∷ (2 ∷ (3 ∷ (4 ∷ (5 ∷ (6 ∷ (7 ∷ (8 ∷ (9 ∷ (10 ∷ (11 ∷ (12 ∷ (13 ∷ (14 ∷ (15 ∷ (16 ∷ (17 ∷ (18 ∷ (19 ∷ (20 ∷ []))))))))))))))))))))

-- one of the sets has this Python, and the other does not
abbrev pub is_in_one : Segments → Segments → ℕ → Bool
is_in_one own locked minor = if contains record_cmp own (python_record minor) then not (contains record_cmp locked (python_record minor)) else contains record_cmp locked (python_record minor)

-- the line of `requires-python` in the lock
abbrev pub python_line : File → FileLine
python_line lock = record { file = lock.name; number = number_or_one (key_line lock.text (codes "requires-python.")); text = codes "requires-python"; comment = [] }

-- that the lock is out of date by this Python
abbrev pub python_finding : File → ℕ → Finding
python_finding lock minor = NoRequirement (python_line lock) (codes "the lock is out of date: it and its project differ on Python " ++ python_text minor) 0

abbrev pub first_difference : File → Option ℕ → List Finding
first_difference lock None = []
first_difference lock (Some minor) = python_finding lock minor ∷ []

-- the first Python that one of these has, of a project and of what its lock says, if both have a set
abbrev pub python_difference : File → Option Segments → Option Segments → List Finding
python_difference lock (Some own) (Some locked) = first_difference lock (find (is_in_one own locked) python_minors)
python_difference lock (Some own) None = []
python_difference lock None locked = []

-- the first document, if it is a project, has other versions of Python or requirements than the second, if this is a lock, in this file
abbrev pub stale_beside : File → DocumentReading → DocumentReading → List Finding
stale_beside lock (IsProject t together names overridden xs) (IsLock parts python ys ms os es fs) =
    python_difference lock (project_python xs) python ++ (if is_plain_for_uv t then differing (replaced_names t names) xs es else [])
stale_beside lock x y = []

-- ---- which lock is compared with which project

abbrev pub is_project : DocumentKind → Bool
is_project Project = true
is_project (Lock kind) = false

-- a lock belongs to the project in its folder, and a lock of uv to those in the folders of its members, too
abbrev pub belongs : LockParts → (lock project : List ℕ) → Bool
belongs parts lock project = bytes_eq (folder lock) (folder project) || list_any (λ m. bytes_eq (folder lock ++ m) (folder project)) parts.members

-- the document with this name that was read so is a lock that belongs to the project with this name
abbrev pub is_beside : (project lock : List ℕ) → DocumentReading → Bool
is_beside project lock (IsLock parts python ys ms os es fs) = belongs parts lock project
is_beside project lock (IsProject t together names overridden xs) = false
is_beside project lock (IsBroken f) = false

-- both are in one folder: a lock says what the project there requires, and none below
abbrev pub in_one_folder : Document → Document → Bool
in_one_folder one other = bytes_eq (folder one.file.name) (folder other.file.name)

-- a lock in the folder of a project
abbrev pub stale_in_pair : Document × DocumentReading → Document × DocumentReading → List Finding
stale_in_pair a b = if in_one_folder a.0 b.0 then stale_beside b.0.file a.1 b.1 else []

module _ (excused : List ℕ → Excuse) where
  -- a document that was read beside another, if it is compared with it
  abbrev pub found_in_pair : Document × DocumentReading → Document × DocumentReading → List Finding
  found_in_pair a b = if is_beside a.0.file.name b.0.file.name b.1 then stale_in_pair a b ++ found_beside excused (in_one_folder a.0 b.0) b.0.kind a.1 b.1 else []

  -- a document beside each of these
  abbrev pub beside_all : List (Document × DocumentReading) → Document × DocumentReading → List Finding
  beside_all others a = flat_map (found_in_pair a) others

-- ---- all documents

-- a report with more findings
abbrev pub with_findings : Report → List Finding → Report
with_findings a found = record { findings = a.findings ++ found; ignored = a.ignored; lines = a.lines; files = a.files; left_out = a.left_out }

-- the report of documents that were read: of each by itself, in order, and then of each project beside each lock that counts for it
abbrev pub documents_report : List Document → List DocumentReading → Report
documents_report documents xs = with_findings (with_own_reports (is_excused xs) empty_report xs) (flat_map (beside_all (is_excused xs) (zip documents xs)) (zip documents xs))

-- of a project the requirements that hold together and have no version in common
abbrev pub FindsOfReading : DocumentReading → List Finding → List Cause → Type 0
FindsOfReading (IsProject t together names overridden xs) fs cs = FindsOfParts together overridden xs fs cs
FindsOfReading (IsLock parts python ys ms os es files) fs cs = FindsNothing fs cs
FindsOfReading (IsBroken f) fs cs = FindsNothing fs cs

-- a report with more findings and causes
abbrev pub with_found : Report → List Finding → List Cause → Report
with_found a fs cs = record { findings = a.findings ++ fs; ignored = a.ignored; lines = a.lines; files = a.files; left_out = a.left_out ++ cs }

-- the report of the documents: behind these findings those of requirements that have no version in common
abbrev pub IsDocumentsReport : List Document → Report → Type 0
IsDocumentsReport documents r = (xs : List DocumentReading) × AllZip IsDocumentReading documents xs
    × (fs : List Finding) × (cs : List Cause) × FindsOfEach FindsOfReading xs fs cs × (r ≡ with_found (documents_report documents xs) fs cs)
