-- Environments: what the variables of markers are (PEP 508, "Environment Markers").
use Rattle.std.specs.Prelude.{◌≡◌, ℕ, ◌==◌, ◌&&◌, ◌||◌, List, [], ◌∷◌, ◌++◌, Bool, Option, Some, bytes_eq, codes, not, option_map, true, if◌then◌else◌}
use Rattle.std.specs.List.{find, flat_map, list_any}

-- a string; or names, as of `extras` and `dependency_groups`
pub data Setting : Type 0 where
  Text : List ℕ → Setting
  Names : List (List ℕ) → Setting

-- of the name of a variable what it is, if the environment has it
abbrev pub Environment : Type 0
Environment = List ℕ → Option Setting

-- a variable, and the string that it is
pub record Assignment : Type 0 where
  pub name : List ℕ
  pub text : List ℕ

-- the environment that has these variables and no other; the first of a name counts
abbrev pub assigned : List Assignment → Environment
assigned variables name = option_map (λ (v : Assignment). Text v.text) (find (λ (v : Assignment). bytes_eq v.name name) variables)

-- what one environment has, the other has, too
abbrev pub Extends : Environment → Environment → Type 0
Extends e whole = (name : List ℕ) (s : Setting) → e name ≡ Some s → whole name ≡ Some s

-- ---- systems

-- what `os_name`, `sys_platform` and `platform_system` are together
pub record System : Type 0 where
  pub os : List ℕ
  pub sys : List ℕ
  pub platform : List ℕ

abbrev pub system : (os sys platform : List ℕ) → System
system os sys platform = record { os = os; sys = sys; platform = platform }

abbrev pub same_system : System → System → Bool
same_system a b = bytes_eq a.os b.os && (bytes_eq a.sys b.sys && bytes_eq a.platform b.platform)

-- Linux, Windows, macOS, Android and iOS
abbrev pub is_known_system : System → Bool
is_known_system s = same_system s (system (codes "posix") (codes "linux") (codes "Linux"))
    || (same_system s (system (codes "nt") (codes "win32") (codes "Windows"))
    || (same_system s (system (codes "posix") (codes "darwin") (codes "Darwin"))
    || (same_system s (system (codes "posix") (codes "android") (codes "Android"))
    || same_system s (system (codes "posix") (codes "ios") (codes "iOS")))))

-- it has the second or the third of these names
abbrev pub has_either_name : System → (sys platform : List ℕ) → Bool
has_either_name s sys platform = bytes_eq s.sys sys || bytes_eq s.platform platform

abbrev pub has_windows_name : System → Bool
has_windows_name s = bytes_eq s.os (codes "nt") || has_either_name s (codes "win32") (codes "Windows")

-- it has a name of one of those but `posix`, which many have
abbrev pub has_known_name : System → Bool
has_known_name s = has_either_name s (codes "linux") (codes "Linux") || (has_windows_name s || (has_either_name s (codes "darwin") (codes "Darwin")
    || (has_either_name s (codes "android") (codes "Android") || has_either_name s (codes "ios") (codes "iOS"))))

-- one of those, or one that has none of their names
abbrev pub is_system : System → Bool
is_system s = is_known_system s || not (has_known_name s)

-- the environment is on this system
pub record IsOn (e : Environment) (s : System) : Type 0 where
  pub os : e (codes "os_name") ≡ Some (Text s.os)
  pub sys : e (codes "sys_platform") ≡ Some (Text s.sys)
  pub platform : e (codes "platform_system") ≡ Some (Text s.platform)

abbrev pub HasSystem : Environment → Type 0
HasSystem e = (s : System) × IsOn e s × (is_system s ≡ true)

-- ---- as markers

-- the string in double quotes, or in single ones if it has a double one
abbrev pub quoted_text : List ℕ → List ℕ
quoted_text text = if list_any (λ b. b == 34) text then codes "'" ++ (text ++ codes "'") else codes "\"" ++ (text ++ codes "\"")

-- the variable is the string, as a marker
abbrev pub assignment_text : Assignment → List ℕ
assignment_text v = v.name ++ (codes " == " ++ quoted_text v.text)

-- all variables are their strings, as a marker
abbrev pub environment_text : List Assignment → List ℕ
environment_text [] = []
environment_text (v ∷ rest) = assignment_text v ++ flat_map (λ (x : Assignment). codes " and " ++ assignment_text x) rest
