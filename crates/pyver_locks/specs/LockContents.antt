-- What is read of a lock: packages, what they require, their files, what is wrong with them, and which parts of a project it has; and what the types of the
-- crate hold of that.
use Rattle.std.specs.Prelude.{List, ℕ, Option, Bool, string_bytes, map, option_map}
use Rattle.pyver_locks.specs.declared.locked_package.LockContents.{LockContents as ContentsValue}
use Rattle.pyver_locks.specs.declared.locked_package.LockFault.{LockFault as FaultValue}
use Rattle.pyver_locks.specs.declared.locked_package.LockParts.{LockParts as PartsValue}
use Rattle.pyver_locks.specs.declared.locked_package.LockedExtra.{LockedExtra as ExtraValue}
use Rattle.pyver_locks.specs.declared.locked_package.LockedFile.{LockedFile as FileValue}
use Rattle.pyver_locks.specs.declared.locked_package.LockedPackage.{LockedPackage as LockedValue}
use Rattle.pyver_locks.specs.declared.locked_package.LockedRequirement.{LockedRequirement as RequirementValue}
use Rattle.pyver_locks.specs.declared.locked_package.PackageCondition.{PackageCondition as ConditionValue}

-- where a lock has a package: for these Pythons where the marker holds, as both are written
pub record PackageCondition : Type 0 where
  pub python : List ℕ
  pub marker : List ℕ

-- a package in a lock: the number of its line, its name and its version, if it has one, as they are written, and where it is, if
-- not everywhere
pub record LockedPackage : Type 0 where
  pub line : ℕ
  pub name : List ℕ
  pub version : Option (List ℕ)
  pub condition : Option PackageCondition

-- a requirement of a locked package: the number of the line and the name and version of that package, the name that it requires, the extras that it asks
-- for and the list of specifiers as they are written, and whether it only refers to another package, which may have a marker (PEP 751,
-- `packages.dependencies`)
pub record LockedRequirement : Type 0 where
  pub line : ℕ
  pub requirer : List ℕ
  pub name : List ℕ
  pub extras : List (List ℕ)
  pub list : List ℕ
  pub is_reference : Bool

-- a requirement that a locked package has for one of its extras, and the key of both
pub record LockedExtra : Type 0 where
  pub key : List ℕ
  pub requirement : LockedRequirement

-- a file of a locked package, in whose name a version stands: the number of the line of that package, its name and its version, the name of
-- the file, and the version in it, as they are written
pub record LockedFile : Type 0 where
  pub line : ℕ
  pub name : List ℕ
  pub version : List ℕ
  pub file : List ℕ
  pub written : List ℕ

-- what is wrong in a lock: the number of its line, what is shown of it, and why
pub record LockFault : Type 0 where
  pub line : ℕ
  pub text : List ℕ
  pub reason : List ℕ

-- the parts of a project that a lock has, in normal form: the names of its groups and extras, with `default` for the dependencies; and what `extras` and
-- `dependency_groups` are in its markers where all that it has is installed; and the markers of the environments that it is for, or none (PEP 751,
-- "Installation"); for which versions of Python the lock says that the project in its folder is; and the folders of its members, as what stands before the
-- names of their files
pub record LockParts : Type 0 where
  pub names : List (List ℕ)
  pub extras : List (List ℕ)
  pub groups : List (List ℕ)
  pub environments : List (List ℕ)
  pub python : Option (List ℕ)
  pub members : List (List ℕ)

-- what is read of a lock: what packages require, also for the extras that their requirements ask for, and for other extras; `entries` are what it says that
-- the project in its folder requires
pub record LockContents : Type 0 where
  pub parts : LockParts
  pub packages : List LockedPackage
  pub requirements : List LockedRequirement
  pub optional : List LockedExtra
  pub entries : List LockedRequirement
  pub files : List LockedFile
  pub faults : List LockFault

abbrev pub condition_of_package : ConditionValue → PackageCondition
condition_of_package c = record { python = string_bytes c.python; marker = string_bytes c.marker }

abbrev pub locked_of : LockedValue → LockedPackage
locked_of l = record { line = l.line; name = string_bytes l.name; version = option_map string_bytes l.version; condition = option_map condition_of_package l.condition }

abbrev pub requirement_of : RequirementValue → LockedRequirement
requirement_of q = record { line = q.line; requirer = q.requirer.items; name = string_bytes q.name; extras = map string_bytes q.extras.items; list = string_bytes q.list; is_reference = q.is_reference }

abbrev pub locked_extra_of : ExtraValue → LockedExtra
locked_extra_of o = record { key = o.key.items; requirement = requirement_of o.requirement }

abbrev pub locked_file_of : FileValue → LockedFile
locked_file_of f = record { line = f.line; name = string_bytes f.name; version = string_bytes f.version; file = string_bytes f.file; written = string_bytes f.written }

abbrev pub fault_of : FaultValue → LockFault
fault_of f = record { line = f.line; text = f.text.items; reason = f.reason.now }

abbrev pub parts_of : PartsValue → LockParts
parts_of p = record { names = map (λ n. n.items) p.names.items; extras = map (λ n. n.items) p.extras.items; groups = map (λ n. n.items) p.groups.items; environments = map (λ t. t.items) p.environments.items; python = option_map string_bytes p.python; members = map (λ f. f.items) p.members.items }

abbrev pub contents_of : ContentsValue → LockContents
contents_of l = record { parts = parts_of l.parts; packages = map locked_of l.packages.items; requirements = map requirement_of l.requirements.items; optional = map locked_extra_of l.optional.items; entries = map requirement_of l.entries.items; files = map locked_file_of l.files.items; faults = map fault_of l.faults.items }
