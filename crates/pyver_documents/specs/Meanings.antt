-- What a string of `pyproject.toml`, a locked package and a document are to the check; and groups (PEP 735) and extras (PEP 621) that include others.
use Rattle.std.specs.Prelude.{List, [], ◌∷◌, ℕ, map, codes, if◌then◌else◌, bytes_eq, Bool, true, ◌≡◌, ◌⊎◌, false, Option, Some, None, ◌+◌, length, ◌++◌, ◌-◌, drop, take, ⊤, not, ◌==◌}
use Rattle.std.specs.List.{flat_map, list_any, list_all, AllZip, All, suffix_len}
use Rattle.std.specs.Str.{IsUtf8}
use Rattle.pep440_pick.specs.Names.{normal}
use Rattle.pep440_rs.specs.Bounds.{Segments}
use Rattle.pep440_rs.specs.Lists.ListGrammar.{DerivesList, PieceRejection, RejectsList}
use Rattle.pep440_rs.specs.LiteralMatching.{matches_literally}
use Rattle.pep440_rs.specs.Specifiers.{Spec}
use Rattle.pep440_rs.specs.declared.specifier.operator.Operator.TheVariants.{Equal}
use Rattle.pep440_sets.specs.Sets.{has_exact, list_set}
use Rattle.pep440_version.specs.ErrorTexts.{rejection_text}
use Rattle.pep440_version.specs.Grammar.{Derives}
use Rattle.pep440_version.specs.Record.{Record}
use Rattle.pep440_version.specs.Rejections.{Rejection, Rejects}
use Rattle.toml.specs.Data.{Members}
use Rattle.toml.specs.Parse.{parse_document}
use Rattle.pyver_documents.specs.DocumentKinds.{locked}
use Rattle.pyver_documents.specs.declared.document_kind.DocumentKind.{DocumentKind}
use Rattle.pyver_documents.specs.declared.document_kind.DocumentKind.TheVariants.{Lock, Project}
use Rattle.pyver_findings.specs.Demands.{line_demand, IsSound}
use Rattle.pyver_findings.specs.FileLines.{FileLine, NoRequirement, File, Finding}
use Rattle.pyver_findings.specs.LineMeanings.{IsNone, LineMeaning, AsksNothing, Asks, LeftOut, IsPartsMeaning, IsListMeaning}
use Rattle.pyver_findings.specs.Reports.{demands_in}
use Rattle.pyver_locks.specs.KnownEnvironments.{ReadCondition}
use Rattle.pyver_locks.specs.LockContents.{LockedPackage, PackageCondition, LockedRequirement, LockedExtra, LockedFile, LockFault, LockParts, LockContents}
use Rattle.pyver_locks.specs.PackageRequirements.{package_text}
use Rattle.pyver_projects.specs.ProjectStrings.{Inclusion, Build, Constraint, Dependencies, Entry, Extra, Group, Include, Invalid, OwnExtras, Python, Section, Unread, Version, inclusions_by, ProjectString, includes, string_number, line_after, line_at}
use Rattle.pyver_projects.specs.ProjectTables.{extra_names, sources, group_names, has_group_tool, overridden_names, project_names}
use Rattle.pyver_projects.specs.RequirementStrings.{extras_text, requirement_text}
use Rattle.pyver_requirements.specs.LineParts.{line_parts}
use Rattle.pyver_requirements.specs.declared.cause.Cause.TheVariants as cause

-- ---- groups and extras that include others

-- the inclusion of a section
abbrev pub inclusion : Section → List Inclusion
inclusion (Include group included) = record { group = group; included = included } ∷ []
inclusion Dependencies = []
inclusion (Extra name) = []
inclusion (Group name) = []
inclusion (OwnExtras asker extras) = []
inclusion (Invalid table reason) = []
inclusion (Entry table name) = []
inclusion Constraint = []
inclusion (Unread c) = []
inclusion Build = []
inclusion Python = []
inclusion Version = []

-- the inclusions of these sections
abbrev pub inclusions : List Section → List Inclusion
inclusions sections = flat_map inclusion sections

-- the groups of a project: their names, and which includes which; and the names of its extras
pub record Groups : Type 0 where
  pub names : List (List ℕ)
  pub inclusions : List Inclusion
  pub extras : List (List ℕ)

-- which extra includes which, by a section
abbrev pub extra_inclusion : Section → List Inclusion
extra_inclusion (OwnExtras asker extras) = inclusions_by asker extras
extra_inclusion section = []

-- by these sections
abbrev pub extra_inclusions : List Section → List Inclusion
extra_inclusions sections = flat_map extra_inclusion sections

-- the groups of `pyproject.toml`, and its extras
abbrev pub groups : Members → Groups
groups document = record { names = group_names document; inclusions = inclusions (map (λ (s : ProjectString). s.section) (sources document)); extras = extra_names document }

-- the name of a group on this line, which is invalid for this reason
abbrev pub no_group : FileLine → List ℕ → LineMeaning
no_group line reason = IsNone (NoRequirement line reason 0)

-- what the name of an included group is: there is a group of this name, and it does not include the group in turn
abbrev pub include_meaning : Groups → FileLine → List ℕ → List ℕ → LineMeaning
include_meaning all line group included = if list_any (bytes_eq included) all.names
    then (if includes all.inclusions included group then no_group line (codes "the group includes itself") else AsksNothing)
    else no_group line (codes "there is no group of this name")

-- each of these is an extra of the project
abbrev pub has_each_extra : List (List ℕ) → List (List ℕ) → Bool
has_each_extra all extras = list_all (λ (e : List ℕ). list_any (bytes_eq e) all) extras

-- the project has the extras of its own that a string of the section asks for
abbrev pub has_own_extras : Groups → Section → Bool
has_own_extras all (OwnExtras asker extras) = has_each_extra all.extras extras
has_own_extras all section = true

-- what a line is that asks for extras of the project itself, if it has them or not
abbrev pub if_it_has : Bool → FileLine → LineMeaning → LineMeaning
if_it_has has line (Asks a) = if has then Asks a else no_group line (codes "the project has no extra of this name")
if_it_has has line (LeftOut c) = if has then LeftOut c else no_group line (codes "the project has no extra of this name")
if_it_has has line (IsNone f) = IsNone f
if_it_has has line AsksNothing = AsksNothing

-- ---- strings of `pyproject.toml`

-- a string as a line of the file
abbrev pub string_line : File → ProjectString → FileLine
string_line file s = record { file = file.name; number = string_number file.text s.section s.text; text = s.text; comment = [] }

-- what a string of this line is that is to be a version
abbrev pub IsVersionMeaning : FileLine → List ℕ → LineMeaning → Type 0
IsVersionMeaning line text x = ((r : Record) × Derives text r × (x ≡ AsksNothing)) ⊎ ((f : Rejection) × Rejects text f × (x ≡ IsNone (NoRequirement line (rejection_text f) 0)))

-- left out, if it is none
abbrev pub left_out_if_none : LineMeaning → LineMeaning
left_out_if_none (IsNone f) = LeftOut cause.OtherSyntax
left_out_if_none (Asks a) = Asks a
left_out_if_none (LeftOut c) = LeftOut c
left_out_if_none AsksNothing = AsksNothing

-- what a line is that stands for an entry of Poetry, whose list PEP 440 may not have
abbrev pub IsEntryMeaning : FileLine → LineMeaning → Type 0
IsEntryMeaning line x = (m : LineMeaning) × IsPartsMeaning line (line_parts line.text) m × (x ≡ left_out_if_none m)

-- what a line is that asks a project with these groups for extras of its own: a requirement, of extras that it has
abbrev pub IsOwnMeaning : Groups → List (List ℕ) → FileLine → LineMeaning → Type 0
IsOwnMeaning all extras line x = (m : LineMeaning) × IsPartsMeaning line (line_parts line.text) m × (x ≡ if_it_has (has_each_extra all.extras extras) line m)

-- what the string of this line, which is this text, is in this section of a project with these groups
abbrev pub IsSectionMeaning : Groups → Section → FileLine → List ℕ → LineMeaning → Type 0
IsSectionMeaning all Python line text x = IsListMeaning line text x
IsSectionMeaning all Version line text x = IsVersionMeaning line text x
IsSectionMeaning all Dependencies line text x = IsPartsMeaning line (line_parts line.text) x
IsSectionMeaning all (Extra name) line text x = IsPartsMeaning line (line_parts line.text) x
IsSectionMeaning all (Group name) line text x = IsPartsMeaning line (line_parts line.text) x
IsSectionMeaning all (Include group included) line text x = x ≡ include_meaning all line group included
IsSectionMeaning all (OwnExtras asker extras) line text x = IsOwnMeaning all extras line x
IsSectionMeaning all (Invalid table reason) line text x = x ≡ no_group line reason
IsSectionMeaning all (Entry table name) line text x = IsEntryMeaning line x
IsSectionMeaning all Constraint line text x = IsPartsMeaning line (line_parts line.text) x
IsSectionMeaning all (Unread c) line text x = x ≡ LeftOut c
IsSectionMeaning all Build line text x = IsPartsMeaning line (line_parts line.text) x

-- the versions that a list of specifiers contains, as a set, which one with `===` does not have
abbrev pub list_versions : List Spec → Option Segments
list_versions list = if has_exact list then None else Some (list_set list)

-- the versions of the list that the string is, if it is one and has a set
abbrev pub AreVersions : List ℕ → Option Segments → Type 0
AreVersions text p = ((list : List Spec) × DerivesList text list × (p ≡ list_versions list)) ⊎ ((f : PieceRejection) × RejectsList text f × (p ≡ None))

-- the versions of Python that the string, which is this text, bounds in this section
abbrev pub ArePythons : Section → List ℕ → Option Segments → Type 0
ArePythons Python text p = AreVersions text p
ArePythons Version text p = p ≡ None
ArePythons Dependencies text p = p ≡ None
ArePythons (Extra name) text p = p ≡ None
ArePythons (Group name) text p = p ≡ None
ArePythons (Include group included) text p = p ≡ None
ArePythons (OwnExtras asker extras) text p = p ≡ None
ArePythons (Invalid table reason) text p = p ≡ None
ArePythons (Entry table name) text p = p ≡ None
ArePythons Constraint text p = p ≡ None
ArePythons (Unread c) text p = p ≡ None
ArePythons Build text p = p ≡ None

-- a string that was read: its section, what it is, and which versions of Python there are by it, if it bounds them
pub record StringReading : Type 0 where
  pub section : Section
  pub meaning : LineMeaning
  pub python : Option Segments

abbrev pub IsStringReading : Groups → File → ProjectString → StringReading → Type 0
IsStringReading all file s x = (x.section ≡ s.section) × IsSectionMeaning all s.section (string_line file s) s.text x.meaning × ArePythons s.section s.text x.python

-- ---- locked packages

-- a package that was read: its line, its name in its normal form, where it is, if not everywhere, its version if it has one that is valid, and what
-- is wrong with it
pub record LockedReading : Type 0 where
  pub line : FileLine
  pub name : List ℕ
  pub condition : Option ReadCondition
  pub version : Option Record
  pub invalid : Option Finding

-- a package as a line of the file with this name
abbrev pub package_line : List ℕ → LockedPackage → FileLine
package_line file p = record { file = file; number = p.line; text = package_text p.name p.version; comment = [] }

-- a package on this line with this name, this condition and this version
abbrev pub IsVersionReading : FileLine → List ℕ → Option ReadCondition → Option (List ℕ) → LockedReading → Type 0
IsVersionReading line name c None y = y ≡ record { line = line; name = normal name; condition = c; version = None; invalid = None }
IsVersionReading line name c (Some text) y = ((r : Record) × Derives text r × (y ≡ record { line = line; name = normal name; condition = c; version = Some r; invalid = None }))
    ⊎ ((f : Rejection) × Rejects text f × (y ≡ record { line = line; name = normal name; condition = c; version = None; invalid = Some (NoRequirement line (rejection_text f) (length name + 1)) }))

-- where a package is: everywhere, if PEP 440 does not know the list of Pythons
abbrev pub IsConditionReading : Option PackageCondition → Option ReadCondition → Type 0
IsConditionReading None c = c ≡ None
IsConditionReading (Some p) c = ((list : List Spec) × DerivesList p.python list × (c ≡ Some (record { python = list; marker = p.marker })))
    ⊎ ((f : PieceRejection) × RejectsList p.python f × (c ≡ None))

abbrev pub IsLockedReading : List ℕ → LockedPackage → LockedReading → Type 0
IsLockedReading file p y = IsConditionReading p.condition y.condition × IsVersionReading (package_line file p) p.name y.condition p.version y

-- ---- requirements of locked packages

-- a requirement as a line of the file with this name
abbrev pub requirement_line : List ℕ → LockedRequirement → FileLine
requirement_line file q = record { file = file; number = q.line; text = q.requirer ++ (codes " requires " ++ requirement_text (q.name ++ extras_text q.extras) q.list); comment = [] }

-- the marker under which it counts: a reference has that of the package, which it does not repeat
abbrev pub reference_marker : Bool → Option (List ℕ)
reference_marker true = Some []
reference_marker false = None

-- what it is: a name with a list, or left out, if the list is none of PEP 440
abbrev pub IsRequirementReading : List ℕ → LockedRequirement → LineMeaning → Type 0
IsRequirementReading file q x = ((list : List Spec) × DerivesList q.list list × (x ≡ Asks (line_demand (requirement_line file q) (reference_marker q.is_reference) (record { name = q.name; extras = q.extras; specifiers = list }))))
    ⊎ ((f : PieceRejection) × RejectsList q.list f × (x ≡ LeftOut cause.OtherSyntax))

-- a requirement for an extra: the key of this, and what it is
pub record ExtraReading : Type 0 where
  pub key : List ℕ
  pub meaning : LineMeaning

abbrev pub IsExtraReading : List ℕ → LockedExtra → ExtraReading → Type 0
IsExtraReading file o x = (x.key ≡ o.key) × IsRequirementReading file o.requirement x.meaning

-- ---- files of locked packages

-- the line of the package of a file
abbrev pub file_package_line : List ℕ → LockedFile → FileLine
file_package_line file f = record { file = file; number = f.line; text = package_text f.name (Some f.version); comment = [] }

-- what a file is, in whose name the version of its package stands, or another one
abbrev pub file_meaning : List ℕ → LockedFile → Bool → LineMeaning
file_meaning file f true = AsksNothing
file_meaning file f false = IsNone (NoRequirement (file_package_line file f) (codes "its file " ++ (f.file ++ codes " has another version")) (length f.name + 1))

-- `==` with the version of a package matches that of its file, so that one without a local part has files with each (PEP 440, "Version matching")
abbrev pub is_of_version : Record → Record → Bool
is_of_version version written = matches_literally Equal version written

-- the string is no version
abbrev pub IsNoVersion : List ℕ → Type 0
IsNoVersion text = (f : Rejection) × Rejects text f

-- what it is: compared with its package, if both are versions
abbrev pub IsFileReading : List ℕ → LockedFile → LineMeaning → Type 0
IsFileReading file f x = ((r q : Record) × Derives f.version r × Derives f.written q × (x ≡ file_meaning file f (is_of_version r q)))
    ⊎ ((IsNoVersion f.version ⊎ IsNoVersion f.written) × (x ≡ AsksNothing))

-- ---- faults of locked packages

abbrev pub fault_line : List ℕ → LockFault → FileLine
fault_line file f = record { file = file; number = f.line; text = f.text; comment = [] }

-- that the lock with this name has it
abbrev pub fault_meaning : List ℕ → LockFault → LineMeaning
fault_meaning file f = IsNone (NoRequirement (fault_line file f) f.reason 0)

-- ---- documents

pub record Document : Type 0 where
  pub kind : DocumentKind
  pub file : File

-- a document that was read: of a project whether its groups hold together with its dependencies, its names, those that it overrides, and its strings; the parts of a lock,
-- for which versions of Python it says that its project is, its packages, what they require, what they require for other extras than their requirements ask
-- for, and what the lock says that its project requires, and what is wrong with their files and beside one another; or why it was not read
pub data DocumentReading : Type 0 where
  IsProject : Members → Bool → (names overridden : List (List ℕ)) → List StringReading → DocumentReading
  IsLock : (parts : LockParts) → (python : Option Segments) → List LockedReading → (requirements : List LineMeaning) → List ExtraReading → (entries faults : List LineMeaning) → DocumentReading
  IsBroken : Finding → DocumentReading

-- what a project with this table is
abbrev pub IsProjectReading : File → Members → DocumentReading → Type 0
IsProjectReading file t x = (xs : List StringReading) × AllZip (IsStringReading (groups t) file) (sources t) xs × (x ≡ IsProject t (has_group_tool t) (project_names t) (overridden_names t) xs)

-- the versions of Python of a lock, if it has such a list with a set of them
abbrev pub AreLockedPythons : Option (List ℕ) → Option Segments → Type 0
AreLockedPythons None p = p ≡ None
AreLockedPythons (Some text) p = AreVersions text p

-- what a lock is that has this
abbrev pub IsLockReading : List ℕ → LockContents → DocumentReading → Type 0
IsLockReading file l x = (p : Option Segments) × AreLockedPythons l.parts.python p × (ys : List LockedReading) × (ms : List LineMeaning) × (os : List ExtraReading) × (es fs : List LineMeaning) × AllZip (IsLockedReading file) l.packages ys × AllZip (IsRequirementReading file) l.requirements ms
    × AllZip (IsExtraReading file) l.optional os × AllZip (IsRequirementReading file) l.entries es × AllZip (IsFileReading file) l.files fs × (x ≡ IsLock l.parts p ys ms os es (fs ++ map (fault_meaning file) l.faults))

-- how many bytes stand behind the last newline
abbrev pub last_bytes : List ℕ → ℕ
last_bytes text = suffix_len (λ b. not (b == 10)) text

-- the line of a position in the file
abbrev pub position_line : File → ℕ → FileLine
position_line file position =
    let before = take position file.text in
    record { file = file.name; number = line_after before; text = line_at (drop (length before - last_bytes before) file.text); comment = [] }

-- that the document is not read, for this reason at this position
abbrev pub broken_at : File → ℕ → List ℕ → DocumentReading
broken_at file position reason = IsBroken (NoRequirement (position_line file position) reason (last_bytes (take position file.text)))

-- the document is not read, for some reason at some position of it
abbrev pub IsBrokenReading : File → DocumentReading → Type 0
IsBrokenReading file d = (position : ℕ) × (reason : List ℕ) × (d ≡ broken_at file position reason)

-- what a lock is that has this, or cannot be read
abbrev pub IsContentsReading : File → Option LockContents → DocumentReading → Type 0
IsContentsReading file found x = ((l : LockContents) × (found ≡ Some l) × IsLockReading file.name l x) ⊎ ((found ≡ None) × IsBrokenReading file x)

-- what a document with this text is, which is UTF-8
abbrev pub IsTextReading : DocumentKind → File → DocumentReading → Type 0
IsTextReading Project file x = ((t : Members) × (parse_document file.text ≡ Some t) × IsProjectReading file t x) ⊎ ((parse_document file.text ≡ None) × IsBrokenReading file x)
IsTextReading (Lock kind) file x = IsContentsReading file (locked kind file.text) x

-- what a document is
abbrev pub IsDocumentReading : Document → DocumentReading → Type 0
IsDocumentReading d x = ((¬ IsUtf8 d.file.text) × ((position : ℕ) × (x ≡ broken_at d.file position (codes "not UTF-8")))) ⊎ (IsUtf8 d.file.text × IsTextReading d.kind d.file x)

-- strings can give the list of the requirement
abbrev pub IsSoundString : StringReading → Type 0
IsSoundString x = All IsSound (demands_in x.meaning)

-- and the lists of a project
abbrev pub IsSoundDocument : DocumentReading → Type 0
IsSoundDocument (IsProject t together names overridden xs) = All IsSoundString xs
IsSoundDocument (IsLock parts python ys ms os es fs) = ⊤
IsSoundDocument (IsBroken f) = ⊤
