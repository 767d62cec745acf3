-- Environments in which installers of today run, CPython 3.9 to 3.14 on three systems, with all that a lock has installed (PEP 751, "Installation"); and
-- those in which a lock leaves a package out by its marker (PEP 508, "Environment Markers").
use Rattle.std.specs.Prelude.{ℕ, List, codes, ◌++◌, [], ◌∷◌, Some, bytes_eq, if◌then◌else◌, Bool, Option, None, Result, Ok, Err, ◌&&◌, ◌||◌, ◌==◌, false, true, length, unwrap_or}
use Rattle.std.specs.Fmt.{decimal}
use Rattle.std.specs.List.{list_all, list_any}
use Rattle.pep440_rs.specs.LiteralMatching.{list_matches_literally}
use Rattle.pep440_rs.specs.Specifiers.{Spec}
use Rattle.pep440_version.specs.Record.{Record, from_release}
use Rattle.pyver_locks.specs.LockContents.{LockParts}
use Rattle.pyver_locks.specs.declared.known_environment.KnownEnvironment.{KnownEnvironment}
use Rattle.pyver_locks.specs.declared.known_environment.System.{System}
use Rattle.pyver_locks.specs.declared.known_environment.System.TheVariants.{Linux, MacOs, Windows}
use Rattle.pyver_markers.specs.Environments.{Assignment, Environment, Names, assigned}
use Rattle.pyver_markers.specs.MarkerComparisons.{compare}
use Rattle.pyver_markers.specs.MarkerValues.{after_steps, both_hold, either_holds, last_value}
use Rattle.pyver_requirements.specs.MarkerSteps.{Misfit, Step, marker_steps}
use Rattle.pyver_locks.specs.declared.known_environment.ReadCondition.{ReadCondition as ReadConditionValue}

-- ---- their variables

abbrev pub system_name : System → List ℕ
system_name Linux = codes "Linux"
system_name Windows = codes "Windows"
system_name MacOs = codes "macOS"

abbrev pub os_name : System → List ℕ
os_name Linux = codes "posix"
os_name Windows = codes "nt"
os_name MacOs = codes "posix"

abbrev pub sys_platform : System → List ℕ
sys_platform Linux = codes "linux"
sys_platform Windows = codes "win32"
sys_platform MacOs = codes "darwin"

abbrev pub platform_system : System → List ℕ
platform_system Linux = codes "Linux"
platform_system Windows = codes "Windows"
platform_system MacOs = codes "Darwin"

abbrev pub platform_machine : System → List ℕ
platform_machine Linux = codes "x86_64"
platform_machine Windows = codes "AMD64"
platform_machine MacOs = codes "arm64"

-- the first two numbers of the version of Python
abbrev pub python_text : ℕ → List ℕ
python_text minor = codes "3." ++ decimal minor

-- the variables of the system with these versions of CPython; others are not known
abbrev pub cpython_variables : System → (short full : List ℕ) → List Assignment
cpython_variables system short full = record { name = codes "python_version"; text = short }
    ∷ (record { name = codes "python_full_version"; text = full }
    ∷ (record { name = codes "implementation_version"; text = full }
    ∷ (record { name = codes "implementation_name"; text = codes "cpython" }
    ∷ (record { name = codes "platform_python_implementation"; text = codes "CPython" }
    ∷ (record { name = codes "os_name"; text = os_name system }
    ∷ (record { name = codes "sys_platform"; text = sys_platform system }
    ∷ (record { name = codes "platform_system"; text = platform_system system }
    ∷ (record { name = codes "platform_machine"; text = platform_machine system } ∷ []))))))))

-- the environment with these extras and groups
abbrev pub with_names : (extras groups : List (List ℕ)) → Environment → Environment
with_names extras groups e name = if bytes_eq (codes "extras") name then Some (Names extras)
    else (if bytes_eq (codes "dependency_groups") name then Some (Names groups) else e name)

-- where all parts are installed
abbrev pub known_environment : LockParts → KnownEnvironment → Environment
known_environment parts k = with_names parts.extras parts.groups (assigned (cpython_variables k.system (python_text k.minor) (python_text k.minor ++ codes ".0")))

-- its name for people
abbrev pub environment_name : KnownEnvironment → List ℕ
environment_name k = system_name k.system ++ (codes " with Python " ++ python_text k.minor)

-- ---- all of them

abbrev pub environments_of : System → List KnownEnvironment
environments_of system = record { system = system; minor = 9 } ∷ (record { system = system; minor = 10 } ∷ (record { system = system; minor = 11 }
    ∷ (record { system = system; minor = 12 } ∷ (record { system = system; minor = 13 } ∷ (record { system = system; minor = 14 } ∷ [])))))

abbrev pub known_environments : List KnownEnvironment
known_environments = environments_of Linux ++ (environments_of Windows ++ environments_of MacOs)

-- ---- packages

-- for which Pythons a lock is, and a marker
pub record ReadCondition : Type 0 where
  pub python : List Spec
  pub marker : List ℕ

-- what it holds, apart from where it lies in memory
abbrev pub read_condition_of : ReadConditionValue → ReadCondition
read_condition_of c = record { python = c.python; marker = c.marker.items }

-- the value of the marker with these steps, if it is one
abbrev pub read_value : Environment → Result (List Step) Misfit → Option Bool
read_value e (Ok all) = last_value (after_steps (compare e) both_hold either_holds all [])
read_value e (Err f) = None

-- CPython 3 with this second number
abbrev pub python_record : ℕ → Record
python_record minor = from_release (3 ∷ (minor ∷ (0 ∷ [])))

-- the value is known, and it is false
abbrev pub is_false : Option Bool → Bool
is_false (Some false) = true
is_false (Some true) = false
is_false None = false

module _ (parts : LockParts) where
  -- what the marker is in the environment
  abbrev pub marker_value : KnownEnvironment → List ℕ → Option Bool
  marker_value k marker = read_value (known_environment parts k) (marker_steps marker)

  abbrev pub is_true_in : KnownEnvironment → List ℕ → Bool
  is_true_in k marker = unwrap_or (marker_value k marker) false

  -- the marker holds in all of them
  abbrev pub holds_everywhere : List ℕ → Bool
  holds_everywhere marker = list_all (λ (k : KnownEnvironment). is_true_in k marker) known_environments

  -- the lock is for the environment, as for all if it says nothing
  abbrev pub is_for : KnownEnvironment → Bool
  is_for k = (length parts.environments == 0) || list_any (is_true_in k) parts.environments

  -- the lock is for this Python and this environment, and leaves out a package with this marker there
  abbrev pub is_left_out : KnownEnvironment → ReadCondition → Bool
  is_left_out k c = list_matches_literally c.python (python_record k.minor) && (is_false (marker_value k c.marker) && is_for k)

  -- a package may have no condition
  abbrev pub is_left_out_in : KnownEnvironment → Option ReadCondition → Bool
  is_left_out_in k None = false
  is_left_out_in k (Some c) = is_left_out k c
