-- What holds of reports of documents: each finding is right; where there is none, each requirement contains a locked version of its
-- name; there is one report.
use Rattle.std.specs.Prelude.{◌≡◌, Some, List, ℕ, IsTrue, false, ◌⊎◌, map, None, Option, [], ◌∷◌, Bool, if◌then◌else◌, ◌+◌, length, ◌≢◌, true, codes, ◌&&◌, ◌||◌, bytes_eq, nat_lt}
use Rattle.std.specs.List.{Contains, flat_map, AllZip, All, list_any, filter}
use Rattle.std.specs.Str.{IsUtf8}
use Rattle.pep440_pick.specs.Names.{same_name, normal}
use Rattle.pep440_pick.specs.RequirementGrammar.{Needed, DerivesRequirement}
use Rattle.pep440_ranges.specs.RangeSegments.{contains}
use Rattle.pep440_rs.specs.Bounds.{Segments}
use Rattle.pep440_rs.specs.Lists.ListGrammar.{DerivesList}
use Rattle.pep440_rs.specs.LiteralMatching.{list_matches_literally}
use Rattle.pep440_rs.specs.Specifiers.{Spec}
use Rattle.pep440_version.specs.ErrorTexts.{rejection_text}
use Rattle.pep440_version.specs.Grammar.{Derives}
use Rattle.pep440_version.specs.Key.{record_cmp}
use Rattle.pep440_version.specs.Record.{Record}
use Rattle.pep440_version.specs.Rejections.{Rejection, Rejects}
use Rattle.toml.specs.Data.{Members}
use Rattle.toml.specs.Parse.{parse_document}
use Rattle.pyver_documents.specs.Comparing.{is_needed, leaves_out, Excuse, project_asks, lack_in, python_finding, same_extras, same_list, is_plain_for_uv, is_declared, unentered_reason, unrequired_reason, IsDocumentsReport, belongs, is_locked, is_installer, python_minors, replaced_names}
use Rattle.pyver_documents.specs.DocumentKinds.{locked}
use Rattle.pyver_documents.specs.Meanings.{Document, package_line, groups, IsSectionMeaning, string_line, extra_inclusions, IsStringReading, StringReading, file_meaning, is_of_version, fault_meaning, ExtraReading, IsExtraReading, requirement_line, AreLockedPythons, Groups, has_own_extras}
use Rattle.pyver_documents.specs.Together.{has_extra, has_group, holds_in, project_domain, project_python, is_replaced, part_demands, section_part}
use Rattle.pyver_documents.specs.declared.document_kind.DocumentKind.{DocumentKind}
use Rattle.pyver_documents.specs.declared.document_kind.DocumentKind.TheVariants.{Lock, Project}
use Rattle.pyver_findings.specs.Conflicts.{has_same_name, unmarked}
use Rattle.pyver_findings.specs.Demands.{Demand}
use Rattle.pyver_findings.specs.FileLines.{File, FileLine, Finding, NoRequirement, Conflicting}
use Rattle.pyver_findings.specs.FindingLaws.{HasMarker, IsRightConflict, HaveNone, IsOneIn, IsUndecided, AreAlike}
use Rattle.pyver_findings.specs.LineMeanings.{IsPlain, IsNone}
use Rattle.pyver_findings.specs.NamedFiles.{folder}
use Rattle.pyver_findings.specs.Reports.{Report}
use Rattle.pyver_findings.specs.declared.finding.Conflict.TheVariants.{PinOutside}
use Rattle.pyver_locks.specs.KnownEnvironments.{is_for, known_environment, python_record, known_environments}
use Rattle.pyver_locks.specs.LockContents.{LockContents, LockedPackage, LockParts, PackageCondition, LockedRequirement, LockedFile, LockFault, LockedExtra}
use Rattle.pyver_locks.specs.declared.known_environment.KnownEnvironment.{KnownEnvironment}
use Rattle.pyver_locks.specs.declared.lock_kind.LockKind.{LockKind}
use Rattle.pyver_markers.specs.Conditions.{Domain, IsEnvironment}
use Rattle.pyver_markers.specs.Environments.{Environment}
use Rattle.pyver_markers.specs.MarkerValues.{value}
use Rattle.pyver_projects.specs.ProjectStrings.{ProjectString, Section, Inclusion, includes}
use Rattle.pyver_projects.specs.ProjectTables.{sources, has_group_tool, overridden_names, project_names}
use Rattle.pyver_requirements.specs.LineParts.{line_parts}
use Rattle.pyver_requirements.specs.MarkerGrammar.{DenotesMarker, Marker}

-- the file is TOML in UTF-8 with this table
abbrev pub HasTable : File → Members → Type 0
HasTable file t = IsUtf8 file.text × (parse_document file.text ≡ Some t)

-- the file is a lock of this kind in UTF-8, and has this
abbrev pub HasContents : LockKind → File → LockContents → Type 0
HasContents kind file l = IsUtf8 file.text × (locked kind file.text ≡ Some l)

-- a file of this kind is TOML in UTF-8
abbrev pub IsReadableAs : DocumentKind → File → Type 0
IsReadableAs Project file = (t : Members) × HasTable file t
IsReadableAs (Lock kind) file = (l : LockContents) × HasContents kind file l

abbrev pub IsReadable : Document → Type 0
IsReadable d = IsReadableAs d.kind d.file

-- one of the documents is a project in this file, with this table
abbrev pub HasProject : List Document → File → Members → Type 0
HasProject documents file t = Contains documents (record { kind = Project; file = file }) × HasTable file t

-- one of the documents is a project in this file, and has this string
abbrev pub HasString : List Document → File → ProjectString → Type 0
HasString documents file s = (t : Members) × HasProject documents file t × Contains (sources t) s

-- one of the documents is a lock of this kind in this file, and has this
abbrev pub HasLock : List Document → LockKind → File → LockContents → Type 0
HasLock documents kind file l = Contains documents (record { kind = Lock kind; file = file }) × HasContents kind file l

-- one of the documents is a lock in this file, and has this package
abbrev pub HasPackage : List Document → File → LockedPackage → Type 0
HasPackage documents file p = (kind : LockKind) × (l : LockContents) × HasLock documents kind file l × Contains l.packages p

-- the package has this name and this version
abbrev pub LocksVersion : List ℕ → LockedPackage → Record → Type 0
LocksVersion name p v = IsTrue (same_name name p.name) × (text : List ℕ) × (p.version ≡ Some text) × Derives text v

-- the list contains the version of a package of this name
abbrev pub SomeContained : List LockedPackage → List ℕ → List Spec → Type 0
SomeContained ps name list = (p : LockedPackage) × (v : Record) × Contains ps p × LocksVersion name p v × IsTrue (list_matches_literally list v)

-- the line is that of a package of this name with a version
abbrev pub IsLineOfName : List ℕ → List LockedPackage → List ℕ → FileLine → Type 0
IsLineOfName lock ps name line = (p : LockedPackage) × (v : Record) × Contains ps p × LocksVersion name p v × (line ≡ package_line lock p)

-- the marker that this string denotes does not hold in the environment
abbrev pub FailsIn : Environment → List ℕ → Type 0
FailsIn e text = (m : Marker) × DenotesMarker text m × (value e m ≡ Some false)

-- a lock with these parts is for the environment and its Python, where the marker of the package does not hold
abbrev pub IsLeftOut : LockParts → KnownEnvironment → LockedPackage → Type 0
IsLeftOut parts k p = (c : PackageCondition) × (list : List Spec) × (p.condition ≡ Some c) × DerivesList c.python list × IsTrue (list_matches_literally list (python_record k.minor))
    × IsTrue (is_for parts k) × FailsIn (known_environment parts k) c.marker

-- the list does not contain the version of the package
abbrev pub IsOutsideList : List Spec → LockedPackage → Type 0
IsOutsideList list p = (text : List ℕ) × (v : Record) × (p.version ≡ Some text) × Derives text v × (list_matches_literally list v ≡ false)

-- a package is none that the requirement may take
abbrev pub CannotBe : Needed → LockedPackage → Type 0
CannotBe n p = (same_name n.name p.name ≡ false) ⊎ IsOutsideList n.specifiers p

-- it does not meet the requirement in the environment
abbrev pub CannotMeet : LockParts → Needed → KnownEnvironment → LockedPackage → Type 0
CannotMeet parts n k p = CannotBe n p ⊎ IsLeftOut parts k p

-- it meets it there
abbrev pub MeetsIn : LockParts → Needed → KnownEnvironment → LockedPackage → Type 0
MeetsIn parts n k p = IsTrue (same_name n.name p.name) × (¬ IsOutsideList n.specifiers p) × (¬ IsLeftOut parts k p)

-- what a requirement of a locked package with this list is
abbrev pub needed_by : LockedRequirement → List Spec → Needed
needed_by q list = record { name = q.name; extras = q.extras; specifiers = list }

-- the string is this requirement, and has no marker and no URL
abbrev pub AlwaysAsks : ProjectString → Needed → Type 0
AlwaysAsks s n = IsPlain (line_parts s.text).requirement × DerivesRequirement (line_parts s.text).requirement n × ((line_parts s.text).marker ≡ None) × ((line_parts s.text).url ≡ None)

-- ---- findings

-- the string is not what it is to be in its section
pub record IsInvalidString (documents : List Document) (f : Finding) : Type 0 where
  pub file : File
  pub string : ProjectString
  pub table : Members
  pub has : HasProject documents file table
  pub within : Contains (sources table) string
  pub is : IsSectionMeaning (groups table) string.section (string_line file string) string.text (IsNone f)

-- the line of a string that holds in the part, which has these groups and extras
abbrev pub line_in_part : Bool → (has_group has_extra : List ℕ → Bool) → Section → File → ProjectString → List FileLine
line_in_part together groups extras part file s = if holds_in together groups extras part s.section then string_line file s ∷ [] else []

-- which extra of a project with this table includes which
abbrev pub extras_of : Members → List Inclusion
extras_of t = extra_inclusions (map (λ (s : ProjectString). s.section) (sources t))

-- the lines of the strings that hold in the part
abbrev pub part_lines : File → Members → Section → List FileLine
part_lines file t part = flat_map (line_in_part (has_group_tool t) (has_group (groups t).inclusions part) (has_extra (extras_of t) part) part file) (sources t)

-- the environments in which the project with this table is installed
abbrev pub IsProjectDomain : File → Members → Domain → Type 0
IsProjectDomain file t d = (xs : List StringReading) × AllZip (IsStringReading (groups t) file) (sources t) xs × (d ≡ project_domain xs)

-- they ask in the one of these environments that is named, or always
abbrev pub IsRightPart : File → Members → List FileLine → Finding → Type 0
IsRightPart file t lines f = (d : Domain) × IsProjectDomain file t d × IsRightConflict line_parts d lines f

-- lines that hold together in a part of a project have no version in common, as a finding of requirements files has none
pub record IsConflict (documents : List Document) (f : Finding) : Type 0 where
  pub file : File
  pub table : Members
  pub part : Section
  pub has : HasProject documents file table
  pub right : IsRightPart file table (part_lines file table part) f

-- the version of the package is none
pub record IsInvalidPackage (documents : List Document) (f : Finding) : Type 0 where
  pub file : File
  pub locked : LockedPackage
  pub text : List ℕ
  pub reason : Rejection
  pub has : HasPackage documents file locked
  pub version : locked.version ≡ Some text
  pub refuses : Rejects text reason
  pub is : f ≡ NoRequirement (package_line file.name locked) (rejection_text reason) (length locked.name + 1)

-- the document is not read
pub record IsUnread (documents : List Document) (f : Finding) : Type 0 where
  pub document : Document
  pub line : FileLine
  pub reason : List ℕ
  pub column : ℕ
  pub has : Contains documents document
  pub none : ¬ IsReadable document
  pub place : line.file ≡ document.file.name
  pub is : f ≡ NoRequirement line reason column

-- a file of a package of a lock has another version in its name than the package, and both are versions
pub record IsOtherFile (documents : List Document) (f : Finding) : Type 0 where
  pub lock : File
  pub kind : LockKind
  pub contents : LockContents
  pub locked : LockedFile
  pub known : HasLock documents kind lock contents
  pub within : Contains contents.files locked
  pub version : Record
  pub other : Record
  pub derives : Derives locked.version version
  pub written : Derives locked.written other
  pub differ : is_of_version version other ≡ false
  pub is : IsNone f ≡ file_meaning lock.name locked false

-- a package of a lock has what is wrong with it beside others
pub record IsLockFault (documents : List Document) (f : Finding) : Type 0 where
  pub lock : File
  pub kind : LockKind
  pub contents : LockContents
  pub fault : LockFault
  pub known : HasLock documents kind lock contents
  pub within : Contains contents.faults fault
  pub is : IsNone f ≡ fault_meaning lock.name fault

-- the project needs a package, and some lock has none of its name
pub record IsMissing (documents : List Document) (f : Finding) : Type 0 where
  pub file : File
  pub string : ProjectString
  pub lock : File
  pub kind : LockKind
  pub contents : LockContents
  pub needed : Needed
  pub has : HasString documents file string
  pub counts : is_needed kind contents.parts.names string.section ≡ true
  pub asks : AlwaysAsks string needed
  pub known : HasLock documents kind lock contents
  pub none : All (λ (p : LockedPackage). same_name needed.name p.name ≡ false) contents.packages
  pub is : f ≡ NoRequirement (string_line file string) (codes "the lock has no package of this name") 0

-- a requirement for this name is on this line, beside packages of the name in this lock, and its list contains the version of none
pub record IsOutside (lock : List ℕ) (ps : List LockedPackage) (name : List ℕ) (list : List Spec) (line : FileLine) (f : Finding) : Type 0 where
  pub first : FileLine
  pub others : List FileLine
  pub each : All (IsLineOfName lock ps name) (first ∷ others)
  pub none : ¬ SomeContained ps name list
  pub is : f ≡ Conflicting PinOutside (line ∷ (first ∷ others)) None

-- the list of a requirement of a project contains no version of a package of its name in a lock that is not for other parts of the project alone
pub record IsExcluded (documents : List Document) (f : Finding) : Type 0 where
  pub file : File
  pub string : ProjectString
  pub lock : File
  pub kind : LockKind
  pub contents : LockContents
  pub needed : Needed
  pub has : HasString documents file string
  pub counts : leaves_out kind contents.parts.names string.section ≡ false
  pub asks : AlwaysAsks string needed
  pub known : HasLock documents kind lock contents
  pub outside : IsOutside lock.name contents.packages needed.name needed.specifiers (string_line file string) f

-- a project asks for the extra with this key in a lock with this, itself or through what other extras require, where no project overrides what it asks for
pub record IsAskedExtra (documents : List Document) (kind : LockKind) (lock : File) (l : LockContents) (key : List ℕ) : Type 0 where
  pub file : File
  pub table : Members
  pub near : Bool
  pub excused : List ℕ → Excuse
  pub strings : List StringReading
  pub extras : List ExtraReading
  pub has : HasProject documents file table
  pub read : AllZip (IsStringReading (groups table) file) (sources table) strings
  pub required : AllZip (IsExtraReading lock.name) l.optional extras
  pub asks : IsTrue (includes (project_asks kind l.parts excused near strings extras) [] key)

-- a package of a lock requires it: itself, for an extra that another one asks for, or for one that a project does
abbrev pub IsRequired : List Document → LockKind → File → LockContents → LockedRequirement → Type 0
IsRequired documents kind lock l q = Contains l.requirements q ⊎ ((o : LockedExtra) × Contains l.optional o × (o.requirement ≡ q) × IsAskedExtra documents kind lock l o.key)

-- the list of a requirement of a package contains no version of a package of its name in the same lock
pub record IsUnmet (documents : List Document) (f : Finding) : Type 0 where
  pub lock : File
  pub kind : LockKind
  pub contents : LockContents
  pub requirement : LockedRequirement
  pub list : List Spec
  pub known : HasLock documents kind lock contents
  pub within : IsRequired documents kind lock contents requirement
  pub read : DerivesList requirement.list list
  pub outside : IsOutside lock.name contents.packages requirement.name list (requirement_line lock.name requirement) f

-- no package of a lock has the name that another one requires
pub record IsAbsent (documents : List Document) (f : Finding) : Type 0 where
  pub lock : File
  pub kind : LockKind
  pub contents : LockContents
  pub requirement : LockedRequirement
  pub known : HasLock documents kind lock contents
  pub within : IsRequired documents kind lock contents requirement
  pub none : All (λ (p : LockedPackage). same_name requirement.name p.name ≡ false) contents.packages
  pub is : f ≡ NoRequirement (requirement_line lock.name requirement) (codes "the lock has no package of this name") 0

-- in some environment none of these packages of a lock with these parts meets this requirement, which is on this line
pub record IsLack (parts : LockParts) (ps : List LockedPackage) (n : Needed) (line : FileLine) (f : Finding) : Type 0 where
  pub environment : KnownEnvironment
  pub none : All (CannotMeet parts n environment) ps
  pub is : f ≡ lack_in line environment

-- in some environment no package of a lock meets a requirement of a project that needs one
pub record IsPartlyMissing (documents : List Document) (f : Finding) : Type 0 where
  pub file : File
  pub string : ProjectString
  pub lock : File
  pub kind : LockKind
  pub contents : LockContents
  pub needed : Needed
  pub has : HasString documents file string
  pub counts : is_needed kind contents.parts.names string.section ≡ true
  pub asks : AlwaysAsks string needed
  pub known : HasLock documents kind lock contents
  pub lack : IsLack contents.parts contents.packages needed (string_line file string) f

-- in some environment no package of a lock meets a requirement of another one
pub record IsPartlyAbsent (documents : List Document) (f : Finding) : Type 0 where
  pub lock : File
  pub kind : LockKind
  pub contents : LockContents
  pub requirement : LockedRequirement
  pub list : List Spec
  pub known : HasLock documents kind lock contents
  pub within : IsRequired documents kind lock contents requirement
  pub read : DerivesList requirement.list list
  pub always : requirement.is_reference ≡ false
  pub lack : IsLack contents.parts contents.packages (needed_by requirement list) (requirement_line lock.name requirement) f

-- the versions of Python of a project, as a set, and those of which a lock with this says that the project in its folder is
pub record HavePythons (file : File) (t : Members) (l : LockContents) (own locked : Segments) : Type 0 where
  pub readings : List StringReading
  pub read : AllZip (IsStringReading (groups t) file) (sources t) readings
  pub project : project_python readings ≡ Some own
  pub lock : AreLockedPythons l.parts.python (Some locked)

-- a lock says that the project in its folder is for a version of Python that this is not for, or the reverse
pub record IsOtherPython (documents : List Document) (f : Finding) : Type 0 where
  pub file : File
  pub table : Members
  pub lock : File
  pub kind : LockKind
  pub contents : LockContents
  pub minor : ℕ
  pub own : Segments
  pub locked : Segments
  pub has : HasProject documents file table
  pub known : HasLock documents kind lock contents
  pub beside : folder file.name ≡ folder lock.name
  pub have : HavePythons file table contents own locked
  pub differ : contains record_cmp own (python_record minor) ≢ contains record_cmp locked (python_record minor)
  pub is : f ≡ python_finding lock minor

-- the string is this requirement, always or under a marker, and has no URL
abbrev pub Requires : ProjectString → Needed → Type 0
Requires s n = IsPlain (line_parts s.text).requirement × DerivesRequirement (line_parts s.text).requirement n × ((m : Option (List ℕ)) × HasMarker (line_parts s.text) m) × ((line_parts s.text).url ≡ None)

-- what a lock says that its project requires is this requirement: it has the name, the extras, and the list unless it has a source of its own
abbrev pub IsEntryFor : Needed → LockedRequirement → Type 0
IsEntryFor n q = (list : List Spec) × DerivesList q.list list × IsTrue (same_name n.name q.name && (same_extras (map normal n.extras) (map normal q.extras) && (q.is_reference || same_list n.specifiers list)))

-- a project and the lock in its folder, which says what the project requires
pub record AreTogether (documents : List Document) (file : File) (t : Members) (lock : File) (kind : LockKind) (l : LockContents) : Type 0 where
  pub has : HasProject documents file t
  pub known : HasLock documents kind lock l
  pub beside : folder file.name ≡ folder lock.name
  pub plain : is_plain_for_uv t ≡ true

-- the section is of the tables that PEP 621 and PEP 735 define, of a project with these groups, which has the extras that it asks for itself
abbrev pub IsDeclared : Groups → Section → Type 0
IsDeclared all section = IsTrue (is_declared section && has_own_extras all section)

-- the lock says that its project requires something, and not this requirement of it
pub record IsUnentered (documents : List Document) (f : Finding) : Type 0 where
  pub file : File
  pub table : Members
  pub string : ProjectString
  pub needed : Needed
  pub lock : File
  pub kind : LockKind
  pub contents : LockContents
  pub are : AreTogether documents file table lock kind contents
  pub within : Contains (sources table) string
  pub counts : IsDeclared (groups table) string.section
  pub requires : Requires string needed
  pub none : All (λ q. ¬ IsEntryFor needed q) contents.entries
  pub is : f ≡ NoRequirement (string_line file string) unentered_reason 0

-- the string is no requirement that the lock says its project has
abbrev pub IsOtherString : Groups → LockedRequirement → ProjectString → Type 0
IsOtherString all q s = IsDeclared all s.section → (n : Needed) → Requires s n → ¬ IsEntryFor n q

-- the lock says that its project has a requirement that it does not have
pub record IsUnrequired (documents : List Document) (f : Finding) : Type 0 where
  pub file : File
  pub table : Members
  pub lock : File
  pub kind : LockKind
  pub contents : LockContents
  pub requirement : LockedRequirement
  pub are : AreTogether documents file table lock kind contents
  pub within : Contains contents.entries requirement
  pub none : All (IsOtherString (groups table) requirement) (sources table)
  pub is : f ≡ NoRequirement (requirement_line lock.name requirement) unrequired_reason 0

-- the finding is right
abbrev pub IsDocumentFinding : List Document → Finding → Type 0
IsDocumentFinding documents f = IsInvalidString documents f
    ⊎ (IsInvalidPackage documents f ⊎ (IsUnread documents f ⊎ (IsMissing documents f ⊎ (IsExcluded documents f ⊎ (IsConflict documents f ⊎ (IsUnmet documents f ⊎ (IsAbsent documents f ⊎ (IsOtherFile documents f ⊎ (IsLockFault documents f ⊎ (IsPartlyMissing documents f ⊎ (IsPartlyAbsent documents f ⊎ (IsUnentered documents f ⊎ (IsUnrequired documents f ⊎ IsOtherPython documents f)))))))))))))

-- each finding is right
abbrev pub DocumentFindingsHold : Type 0
DocumentFindingsHold = (documents : List Document) (r : Report) → IsDocumentsReport documents r → All (IsDocumentFinding documents) r.findings

-- ---- no finding

-- the project sets the versions of this name itself
abbrev pub overrides : List ℕ → Members → Bool
overrides name t = list_any (bytes_eq (normal name)) (overridden_names t)

-- it does, in place of a requirement for the name that stands where this string does
abbrev pub replaces : ProjectString → List ℕ → Members → Bool
replaces s name t = is_replaced (overridden_names t) s.section (normal name)

-- each requirement of each project that none replaces contains a version of its name in each lock that counts for it, does not leave its part out, and
-- has one
abbrev pub AllContained : List Document → Type 0
AllContained documents = (file lock : File) (kind : LockKind) (l : LockContents) (s : ProjectString) (p : LockedPackage) (n : Needed) (v : Record)
    → HasString documents file s → HasLock documents kind lock l → Contains l.packages p → IsTrue (belongs l.parts lock.name file.name)
    → IsTrue (is_locked (bytes_eq (folder file.name) (folder lock.name)) s.section) → leaves_out kind l.parts.names s.section ≡ false → AlwaysAsks s n → ((other : File) (t : Members) → HasProject documents other t → replaces s n.name t ≡ false)
    → LocksVersion n.name p v → SomeContained l.packages n.name n.specifiers

-- the list of the requirement contains a version of its name in the same lock, if that has one
abbrev pub ContainsVersion : LockContents → LockedRequirement → List Spec → Type 0
ContainsVersion l q list = (p : LockedPackage) (v : Record) → Contains l.packages p → LocksVersion q.name p v → SomeContained l.packages q.name list

-- some package has the name; in each environment, if the requirement does not only refer to one, some package meets it
abbrev pub IsPresent : LockContents → LockedRequirement → List Spec → Type 0
IsPresent l q list = ((p : LockedPackage) × Contains l.packages p × IsTrue (same_name q.name p.name))
    × ((k : KnownEnvironment) → q.is_reference ≡ false → Contains known_environments k → (p : LockedPackage) × Contains l.packages p × MeetsIn l.parts (needed_by q list) k p)

-- each requirement of a package whose list is one contains a version of its name in the same lock, if that has one and no project overrides it
abbrev pub AllMet : List Document → Type 0
AllMet documents = (lock : File) (kind : LockKind) (l : LockContents) (q : LockedRequirement) (list : List Spec) → HasLock documents kind lock l
    → Contains l.requirements q → DerivesList q.list list → ((file : File) (t : Members) → HasProject documents file t → overrides q.name t ≡ false) → ContainsVersion l q list

-- a project that is no project of this name
abbrev pub IsOtherProject : List ℕ → Members → Type 0
IsOtherProject name t = list_any (bytes_eq (normal name)) (project_names t) ≡ false

-- some package has the name that another one requires, where there is a project and none of that name or that overrides it, but for installers; in each environment, if
-- it does not only refer to one, some package meets the requirement
abbrev pub AllPresent : List Document → Type 0
AllPresent documents = (lock file : File) (kind : LockKind) (l : LockContents) (t : Members) (q : LockedRequirement) (list : List Spec) → HasLock documents kind lock l → Contains l.requirements q → DerivesList q.list list
    → HasProject documents file t → ((other : File) (u : Members) → HasProject documents other u → IsOtherProject q.name u × (overrides q.name u ≡ false)) → is_installer (normal q.name) ≡ false → IsPresent l q list

-- each file of a package of a lock whose name has a version has that of the package
abbrev pub AllOfVersion : List Document → Type 0
AllOfVersion documents = (lock : File) (kind : LockKind) (l : LockContents) (f : LockedFile) (r q : Record) → HasLock documents kind lock l → Contains l.files f → Derives f.version r → Derives f.written q
    → is_of_version r q ≡ true

-- nothing is wrong with the packages of a lock beside one another
abbrev pub AllAlone : List Document → Type 0
AllAlone documents = (lock : File) (kind : LockKind) (l : LockContents) → HasLock documents kind lock l → l.faults ≡ []

-- each lock that says for which versions of Python the project in its folder is says the same as this
abbrev pub AllOfOnePython : List Document → Type 0
AllOfOnePython documents = (file lock : File) (kind : LockKind) (l : LockContents) (t : Members) (own locked : Segments) (minor : ℕ) → HasProject documents file t → HasLock documents kind lock l
    → IsTrue (belongs l.parts lock.name file.name) → folder file.name ≡ folder lock.name → HavePythons file t l own locked
    → Contains python_minors minor → contains record_cmp own (python_record minor) ≡ contains record_cmp locked (python_record minor)

-- the name is not one by which the project asks for extras of its own that uv may replace
abbrev pub IsWrittenName : List ℕ → Members → Type 0
IsWrittenName name t = list_any (bytes_eq (normal name)) (replaced_names t (project_names t)) ≡ false

-- each requirement of a project is one that the lock in its folder says it has, where that says some
abbrev pub AllEntered : List Document → Type 0
AllEntered documents = (file lock : File) (kind : LockKind) (l : LockContents) (t : Members) (s : ProjectString) (n : Needed) → AreTogether documents file t lock kind l
    → IsTrue (belongs l.parts lock.name file.name) → nat_lt 0 (length l.entries) ≡ true
    → Contains (sources t) s → IsDeclared (groups t) s.section → Requires s n → IsWrittenName n.name t → (q : LockedRequirement) × Contains l.entries q × IsEntryFor n q

-- and each that it says the project has, without a source of its own, is one of the project
abbrev pub AllRequired : List Document → Type 0
AllRequired documents = (file lock : File) (kind : LockKind) (l : LockContents) (t : Members) (q : LockedRequirement) (list : List Spec) → AreTogether documents file t lock kind l
    → IsTrue (belongs l.parts lock.name file.name)
    → Contains l.entries q → DerivesList q.list list → q.is_reference ≡ false → IsWrittenName q.name t
    → (s : ProjectString) × (n : Needed) × Contains (sources t) s × IsDeclared (groups t) s.section × Requires s n × IsEntryFor n q

-- where nothing is found, they do
abbrev pub NoFindingImpliesContained : Type 0
NoFindingImpliesContained = (documents : List Document) (r : Report) → IsDocumentsReport documents r → r.findings ≡ [] → AllContained documents × (AllMet documents × (AllPresent documents × (AllOfVersion documents × (AllAlone documents × (AllEntered documents × (AllRequired documents × AllOfOnePython documents))))))

-- the lines are the requirements of a part of a project, which is installed in the environments of the domain
pub record IsPart (documents : List Document) (d : Domain) (lines : List Demand) : Type 0 where
  pub file : File
  pub table : Members
  pub string : ProjectString
  pub readings : List StringReading
  pub has : HasProject documents file table
  pub within : Contains (sources table) string
  pub read : AllZip (IsStringReading (groups table) file) (sources table) readings
  pub bounds : d ≡ project_domain readings
  pub are : lines ≡ part_demands (has_group_tool table) (overridden_names table) (groups table).inclusions (extras_of table) (section_part string.section) readings

-- those of one name without a marker have a version in common
abbrev pub AllSatisfiable : List Document → Type 0
AllSatisfiable documents = (d : Domain) (lines : List Demand) (a : Demand) → IsPart documents d lines → Contains lines a → ¬ HaveNone (unmarked (filter (has_same_name a) lines))

-- those of one name that ask in an environment in which the project is installed have a version in common
abbrev pub AllSatisfiableTogether : List Document → Type 0
AllSatisfiableTogether documents = (d : Domain) (lines : List Demand) (a : Demand) (e : Environment) (asking : List Demand) → IsPart documents d lines → Contains lines a
    → IsEnvironment d e → All (IsOneIn e a lines) asking → ¬ HaveNone asking

-- where nothing is found, the first have, and if nothing is undecided the second
abbrev pub NoFindingImpliesSatisfiable : Type 0
NoFindingImpliesSatisfiable = (documents : List Document) (r : Report) → IsDocumentsReport documents r → r.findings ≡ []
    → AllSatisfiable documents × (¬ IsUndecided r → AllSatisfiableTogether documents)

-- ---- one report

-- documents that are TOML in UTF-8 have at most one report in which nothing is undecided, but for the environments that it names
abbrev pub DocumentReportsOnce : Type 0
DocumentReportsOnce = (documents : List Document) (r s : Report) → All IsReadable documents → IsDocumentsReport documents r → IsDocumentsReport documents s
    → ¬ IsUndecided r → ¬ IsUndecided s → AreAlike r s
