-- What conditions say of one variable, and boxes in which no environment is.
use Rattle.std.specs.Prelude.{◌≡◌, ◌≢◌, ⊤, ℕ, List, [], ◌∷◌, Bool, true, false, not, Option, Some, None, ◌||◌, bytes_eq, codes, is_none, if◌then◌else◌}
use Rattle.std.specs.List.{list_all}
use Rattle.std.specs.Option.{option_map_or, option_or}
use Rattle.pep440_pick.specs.Names.{normal}
use Rattle.pep440_ranges.specs.RangeSegments.{contains}
use Rattle.pep440_rs.specs.Bounds.{Segments}
use Rattle.pep440_rs.specs.Denoted.{IsDenoted}
use Rattle.pep440_rs.specs.LiteralMatching.{matches_literally}
use Rattle.pep440_rs.specs.Specifiers.{Spec}
use Rattle.pep440_version.specs.Key.{record_cmp}
use Rattle.pep440_version.specs.Record.{Record, epoch_and_release}
use Rattle.pyver_requirements.specs.MarkerGrammar.{Marker}
use Rattle.pyver_requirements.specs.MarkerTokens.{Constant, Side, Variable}
use Rattle.pyver_requirements.specs.declared.marker_operator.MarkerOperator.{MarkerOperator}
use Rattle.pyver_requirements.specs.declared.marker_operator.MarkerOperator.TheVariants as operator
use Rattle.pyver_markers.specs.Boxes.{Box, Condition, in_box, meets}
use Rattle.pyver_markers.specs.Environments.{Environment, HasSystem, IsOn, Setting, System, Text, assigned}
use Rattle.pyver_markers.specs.MarkerComparisons.{ascii_specifier, ascii_version, compare, compare_left, compare_right, compare_texts, compare_versions, is_name_variable, matches_specifier, spelling_in}
use Rattle.pyver_markers.specs.MarkerValues.{value}
use Rattle.pyver_markers.specs.declared.text_condition.Operand.{Operand}
use Rattle.pyver_markers.specs.declared.text_condition.Operand.TheVariants.{Left, Right}

-- ---- environments

-- the variable is a version
abbrev pub HasVersion : Environment → List ℕ → Type 0
HasVersion e name = (text : List ℕ) × (v : Record) × (e name ≡ Some (Text text)) × (ascii_version text ≡ Some v)

-- the first two numbers of a release; those that are not written are 0
abbrev pub first_two : List ℕ → List ℕ
first_two [] = 0 ∷ 0 ∷ []
first_two (a ∷ []) = a ∷ 0 ∷ []
first_two (a ∷ b ∷ rest) = a ∷ b ∷ []

-- the version of the first two numbers, of the same epoch and with no other part
abbrev pub short_version : Record → Record
short_version v = epoch_and_release v.epoch (first_two v.release)

-- the version that a variable is
abbrev pub setting_version : Option Setting → Option Record
setting_version (Some (Text text)) = ascii_version text
setting_version _ = None

abbrev pub variable_version : Environment → List ℕ → Option Record
variable_version e name = setting_version (e name)

-- one variable is the first two numbers of the other, where both are versions
abbrev pub AreLinked : Environment → List ℕ → List ℕ → Type 0
AreLinked e short full = (v w : Record) → variable_version e short ≡ Some v → variable_version e full ≡ Some w → v ≡ short_version w

-- the versions of Python: the first two numbers, and all
pub record HasPython (e : Environment) : Type 0 where
  pub short : HasVersion e (codes "python_version")
  pub full : HasVersion e (codes "python_full_version")
  pub linked : AreLinked e (codes "python_version") (codes "python_full_version")

-- the variable is no string
abbrev pub HasNoText : Environment → List ℕ → Type 0
HasNoText e name = (text : List ℕ) → e name ≢ Some (Text text)

-- which environments are considered: whether the variables of the system are linked, and the versions that Python may have, or all
pub record Domain : Type 0 where
  pub linked : Bool
  pub python : Option Segments

-- the version is one of these
abbrev pub IsAllowed : Option Segments → Record → Type 0
IsAllowed None v = ⊤
IsAllowed (Some set) v = contains record_cmp set v ≡ true

-- Python has such a version, if it has one
abbrev pub HasAllowed : Option Segments → Environment → Type 0
HasAllowed versions e = (v : Record) → variable_version e (codes "python_full_version") ≡ Some v → IsAllowed versions v

-- Python and its implementation have versions, and the system its names; extras and dependency groups are names, where they are
pub record IsEnvironment (d : Domain) (e : Environment) : Type 0 where
  pub python : HasPython e
  pub allowed : HasAllowed d.python e
  pub implementation_version : HasVersion e (codes "implementation_version")
  pub system : d.linked ≡ true → HasSystem e
  pub extras : HasNoText e (codes "extras")
  pub dependency_groups : HasNoText e (codes "dependency_groups")

-- no environment is in the box
abbrev pub HasNoEnvironment : Domain → Box → Type 0
HasNoEnvironment d box = (e : Environment) → IsEnvironment d e → in_box e box ≡ false

-- no environment on the system is in the box
abbrev pub LacksSystem : Box → System → Type 0
LacksSystem box s = (e : Environment) → IsOn e s → in_box e box ≡ false

-- so is none on a system that has none of these names
abbrev pub LacksOthers : Box → (System → Bool) → Type 0
LacksOthers box has_name = (s : System) → has_name s ≡ false → LacksSystem box s

-- the marker has the wanted value in no environment
abbrev pub IsNever : Domain → Bool → Marker → Type 0
IsNever d wanted m = (e : Environment) → IsEnvironment d e → value e m ≢ Some wanted

-- ---- one condition

-- the condition compares the variable with the operand
abbrev pub IsOperand : List ℕ → Condition → Operand → Type 0
IsOperand name c (Right text) = (e : Environment) → compare e c.left c.operator c.right ≡ compare_left name c.operator text.now (e name)
IsOperand name c (Left text) = (e : Environment) → compare e c.left c.operator c.right ≡ compare_right text.now c.operator name (e name)

-- the string
abbrev pub operand_text : Operand → List ℕ
operand_text (Right text) = text.now
operand_text (Left text) = text.now

-- what the comparison with the operand gives where the variable is this string
abbrev pub compare_operand : List ℕ → List ℕ → MarkerOperator → Operand → Option Bool
compare_operand name text o (Right right) = compare_texts name text o right.now
compare_operand name text o (Left left) = compare_texts name left.now o text

-- strings are to be equal
abbrev pub wants_equal : MarkerOperator → Bool → Bool
wants_equal operator.Equal wanted = wanted
wants_equal operator.LessOrEqual wanted = wanted
wants_equal operator.GreaterOrEqual wanted = wanted
wants_equal operator.NotEqual wanted = not wanted
wants_equal _ wanted = false

-- what comparisons that are not of versions see of a string
abbrev pub comparable : List ℕ → List ℕ → List ℕ
comparable name text = if is_name_variable name then normal text else text

-- ---- versions

-- strings compare with this one as versions with the specifier
abbrev pub ComparesAs : MarkerOperator → List ℕ → Spec → Type 0
ComparesAs o right s = (left : List ℕ) → compare_versions left o right ≡ Some (matches_specifier s (ascii_version left))

-- the set has the versions that match
abbrev pub HoldsMatchesOf : Spec → Segments → Type 0
HoldsMatchesOf s set = (v : Record) → IsDenoted v → contains record_cmp set v ≡ matches_literally s.operator s.version v

-- where the variable is a version, the condition is met exactly if the set has it
abbrev pub HoldsMet : List ℕ → Condition → Segments → Type 0
HoldsMet name c set = (e : Environment) (x : List ℕ) (v : Record) → e name ≡ Some (Text x) → ascii_version x ≡ Some v → meets e c ≡ contains record_cmp set v

-- the second set has what is in the first one where the condition is met
abbrev pub Narrows : List ℕ → Condition → Segments → Segments → Type 0
Narrows name c set narrowed = (e : Environment) (x : List ℕ) (v : Record) → e name ≡ Some (Text x) → ascii_version x ≡ Some v → meets e c ≡ true
    → contains record_cmp set v ≡ true → contains record_cmp narrowed v ≡ true

-- the set has each version that the variable is where the box has an environment
abbrev pub HoldsVersionsOf : List ℕ → Box → Segments → Type 0
HoldsVersionsOf name box set = (e : Environment) (x : List ℕ) (v : Record) → e name ≡ Some (Text x) → ascii_version x ≡ Some v → in_box e box ≡ true
    → contains record_cmp set v ≡ true

-- ---- versions of two numbers

-- the set has the versions of which the first two numbers match
abbrev pub HoldsShortMatchesOf : Spec → Segments → Type 0
HoldsShortMatchesOf s set = (w : Record) → IsDenoted w → contains record_cmp set w ≡ matches_literally s.operator s.version (short_version w)

-- where the variable is the first two numbers of a version, the condition is met exactly if the set has that version
abbrev pub HoldsShortMet : List ℕ → Condition → Segments → Type 0
HoldsShortMet name c set = (e : Environment) (x : List ℕ) (w : Record) → e name ≡ Some (Text x) → ascii_version x ≡ Some (short_version w) → IsDenoted w
    → meets e c ≡ contains record_cmp set w

-- the second set has what is in the first one where the condition is met by the first two numbers
abbrev pub NarrowsByShort : List ℕ → Condition → Segments → Segments → Type 0
NarrowsByShort name c set narrowed = (e : Environment) (x : List ℕ) (w : Record) → e name ≡ Some (Text x) → ascii_version x ≡ Some (short_version w) → IsDenoted w
    → meets e c ≡ true → contains record_cmp set w ≡ true → contains record_cmp narrowed w ≡ true

-- so it has where the box has an environment
abbrev pub NarrowsByAllShort : List ℕ → Box → Segments → Segments → Type 0
NarrowsByAllShort name box set narrowed = (e : Environment) (x : List ℕ) (w : Record) → e name ≡ Some (Text x) → ascii_version x ≡ Some (short_version w) → IsDenoted w
    → in_box e box ≡ true → contains record_cmp set w ≡ true → contains record_cmp narrowed w ≡ true

-- ---- what is asked of a variable

-- the string on the right of the variable; beside a variable another stands for its name
abbrev pub right_of : List ℕ → Side → Side → Option (List ℕ)
right_of name (Variable left) (Constant text) = if bytes_eq left name then Some text else None
right_of name (Variable left) (Variable text) = if bytes_eq left name then Some text else None
right_of name _ _ = None

-- the specifier that is written so, but for `===`
abbrev pub written_specifier : List ℕ → Option Spec
written_specifier written = if is_none (spelling_in written) then ascii_specifier written else None

-- the string beside the variable
abbrev pub beside_variable : List ℕ → Side → Side → Option (List ℕ)
beside_variable name (Constant text) (Variable right) = if bytes_eq right name then Some text else None
beside_variable name left right = right_of name left right

-- the string that the variable is to be equal to
abbrev pub asked_text : List ℕ → Condition → Option (List ℕ)
asked_text name c = if wants_equal c.operator c.wanted then beside_variable name c.left c.right else None

-- the first such string
abbrev pub first_asked : List ℕ → Box → Option (List ℕ)
first_asked name [] = None
first_asked name (c ∷ box) = option_or (asked_text name c) (first_asked name box)

-- the condition is one of another variable, or is met where the variable is this string
abbrev pub is_met_at : List ℕ → List ℕ → Condition → Bool
is_met_at name text c = is_none (beside_variable name c.left c.right) || meets (assigned (record { name = name; text = text } ∷ [])) c

-- the variable is to be equal to a string that does not meet all conditions
abbrev pub lacks_text : List ℕ → Box → Bool
lacks_text name box = option_map_or (λ text. not (list_all (is_met_at name text) box)) (first_asked name box) false

-- so is one of the platform
abbrev pub lacks_platform_text : Box → Bool
lacks_platform_text box = lacks_text (codes "os_name") box || (lacks_text (codes "sys_platform") box || (lacks_text (codes "platform_system") box
    || (lacks_text (codes "platform_version") box || lacks_text (codes "platform_machine") box)))

-- so is one of all variables that are strings
abbrev pub lacks_any_text : Box → Bool
lacks_any_text box = lacks_platform_text box || (lacks_text (codes "platform_python_implementation") box
    || (lacks_text (codes "implementation_name") box || lacks_text (codes "extra") box))
