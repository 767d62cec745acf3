-- Where a marker holds, as far as it is known; and what environments, conditions and boxes hold, apart from where it lies in memory.
use Rattle.std.specs.Prelude.{List, Option, bytes_eq, map, option_map, ◌≡◌, ⊤, ℕ, ◌==◌, ◌&&◌, ◌||◌, Bool, Some, false, not, true}
use Rattle.std.specs.Global.{Vec}
use Rattle.std.specs.List.{find, list_all, list_any}
use Rattle.pyver_requirements.specs.MarkerViews.{side_of}
use Rattle.pyver_markers.specs.Boxes.{Box}
use Rattle.pyver_markers.specs.Environments.{Assignment, Environment, assigned, Extends}
use Rattle.pyver_markers.specs.declared.environment.Domain.{Domain as DomainValue}
use Rattle.pyver_markers.specs.declared.environment.Setting.{Setting}
use Rattle.pyver_markers.specs.declared.environment.Variable.{Variable}
use Rattle.pyver_markers.specs.declared.environment_box.Condition.{Condition}
use Rattle.pyver_markers.specs.declared.system.SystemNames.{SystemNames}
use Rattle.pyver_markers.specs.declared.found_environment.FoundVariable.{FoundVariable}
use Rattle.pyver_markers.specs.declared.environment_marker.MarkerExtent.{MarkerExtent}
use Rattle.pyver_requirements.specs.MarkerGrammar.{Marker}
use Rattle.pyver_markers.specs.Conditions.{Domain, IsEnvironment, IsNever}
use Rattle.pyver_markers.specs.MarkerValues.{value}
use Rattle.pyver_markers.specs.Boxes as boxes
use Rattle.pyver_markers.specs.Environments as environments
use Rattle.pyver_markers.specs.Conditions as conditions
use Rattle.pyver_markers.specs.declared.environment.Setting.TheVariants as setting
use Rattle.pyver_markers.specs.declared.environment_marker.MarkerExtent.TheVariants as extent

abbrev pub setting_of : Setting → environments.Setting
setting_of (setting.Text text) = environments.Text text.now
setting_of (setting.Names names) = environments.Names (map (λ n. n.now) names.now)

-- the first variable of the name counts
abbrev pub environment_of : List Variable → Environment
environment_of variables name = option_map (λ v. setting_of v.setting) (find (λ v. bytes_eq v.name.now name) variables)

abbrev pub assignment_of : FoundVariable → Assignment
assignment_of v = record { name = v.name.now; text = v.text.items }

-- the environment of variables that are strings
abbrev pub found_environment : List FoundVariable → Environment
found_environment variables = assigned (map assignment_of variables)

-- in no environment, in each, or where these variables are so; or it is not known
pub data Extent : Type 0 where
  Nowhere : Extent
  Always : Extent
  Somewhere : List Assignment → Extent
  Undecided : Extent

abbrev pub extent_of : MarkerExtent → Extent
extent_of extent.Nowhere = Nowhere
extent_of extent.Always = Always
extent_of (extent.Somewhere variables) = Somewhere (map assignment_of variables.items)
extent_of extent.Undecided = Undecided

abbrev pub system_of : SystemNames → environments.System
system_of s = record { os = s.os.now; sys = s.sys.now; platform = s.platform.now }

abbrev pub domain_of : DomainValue → conditions.Domain
domain_of d = record { linked = d.linked; python = option_map (λ set. set.now) d.python }

abbrev pub condition_of : Condition → boxes.Condition
condition_of c = record { left = side_of c.left; operator = c.operator; right = side_of c.right; wanted = c.wanted }

abbrev pub boxes_of : Option (Vec Box) → Option (List Box)
boxes_of found = option_map (λ v. v.items) found

-- a marker can name the string: it has no backslash, and not both kinds of quotes
abbrev pub is_writable : List ℕ → Bool
is_writable text = not (list_any (λ b. b == 92) text || (list_any (λ b. b == 34) text && list_any (λ b. b == 39) text))

-- in some environment the variables are so, and wherever they are, the marker holds
pub record IsExample (d : Domain) (m : Marker) (variables : List Assignment) : Type 0 where
  pub environment : Environment
  pub known : IsEnvironment d environment
  pub has : Extends (assigned variables) environment
  pub holds : (e : Environment) → Extends (assigned variables) e → value e m ≡ Some true
  pub writable : list_all (λ (v : Assignment). is_writable v.text) variables ≡ true

-- the marker holds in some environment, and is false in none
abbrev pub IsAlways : Domain → Marker → Type 0
IsAlways d m = (e : Environment) × IsEnvironment d e × (value e m ≡ Some true) × IsNever d false m

-- this is where the marker holds
abbrev pub IsExtent : Domain → Marker → Extent → Type 0
IsExtent d m Nowhere = IsNever d true m
IsExtent d m Always = IsAlways d m
IsExtent d m (Somewhere variables) = IsExample d m variables
IsExtent d m Undecided = ⊤
