-- What a comparison of an environment marker gives (PEP 508, "Environment Markers"): true, false, or undefined. Where the text is silent it is read
-- as `packaging` 26.3 does.
use Rattle.std.specs.Prelude.{ℕ, ◌==◌, ◌&&◌, ◌||◌, List, [], ◌∷◌, ◌++◌, Bool, true, false, not, Option, Some, None, Result, Ok, Err, bytes_eq, codes, eqb, length, if◌then◌else◌}
use Rattle.std.specs.Char.{is_ascii, is_ascii_whitespace}
use Rattle.std.specs.List.{list_all, list_any, starts_with}
use Rattle.std.specs.Str.{str_eq_ignore_ascii_case}
use Rattle.pep440_pick.specs.Names.{normal}
use Rattle.pep440_rs.specs.Blanks.{trim_blanks}
use Rattle.pep440_rs.specs.LiteralMatching.{matches_literally}
use Rattle.pep440_rs.specs.Specifiers.SpecifierReading.{read_specifier}
use Rattle.pep440_rs.specs.Specifiers.{Spec}
use Rattle.pep440_version.specs.Record.{Record}
use Rattle.pep440_version.specs.Whole.{read_version}
use Rattle.pyver_requirements.specs.MarkerTerms.{marker_operator_text}
use Rattle.pyver_requirements.specs.MarkerTokens.{Constant, Side, Variable}
use Rattle.pyver_requirements.specs.declared.marker_operator.MarkerOperator.{MarkerOperator}
use Rattle.pyver_requirements.specs.declared.marker_operator.MarkerOperator.TheVariants as operator
use Rattle.pyver_markers.specs.Environments.{Environment, Names, Setting, Text}

-- ---- strings

-- the bytes stand in the string, side by side
abbrev pub occurs : List ℕ → List ℕ → Bool
occurs part [] = length part == 0
occurs part (b ∷ rest) = starts_with eqb (b ∷ rest) part || occurs part rest

-- two strings: no order of strings is known, so that `<` and `>` do not hold, and `<=` and `>=` compare as `==`
abbrev pub compare_strings : List ℕ → MarkerOperator → List ℕ → Option Bool
compare_strings left operator.Less right = Some false
compare_strings left operator.LessOrEqual right = Some (bytes_eq left right)
compare_strings left operator.NotEqual right = Some (not (bytes_eq left right))
compare_strings left operator.Equal right = Some (bytes_eq left right)
compare_strings left operator.GreaterOrEqual right = Some (bytes_eq left right)
compare_strings left operator.Greater right = Some false
compare_strings left operator.Compatible right = None
compare_strings left operator.Arbitrary right = None
compare_strings left operator.In right = Some (occurs left right)
compare_strings left operator.NotIn right = Some (not (occurs left right))

-- ---- versions

-- what a reading gave, if it is something
abbrev pub if_read : {A E : Type 0} → Result A E → Option A
if_read (Ok x) = Some x
if_read (Err e) = None

-- the specifier, and the version, that the ASCII string is
abbrev pub ascii_specifier : List ℕ → Option Spec
ascii_specifier text = if list_all is_ascii text then if_read (read_specifier text) else None

abbrev pub ascii_version : List ℕ → Option Record
ascii_version text = if list_all is_ascii text then if_read (read_version text) else None

-- the version matches the specifier; what is no version matches none
abbrev pub matches_specifier : Spec → Option Record → Bool
matches_specifier s None = false
matches_specifier s (Some v) = matches_literally s.operator s.version v

-- white space, `;` and `)` cannot stand behind `===`
abbrev pub ends_operand : ℕ → Bool
ends_operand b = is_ascii_whitespace b || ((b == 59) || (b == 41))

-- `===`: two strings that are the same but for the case of letters
abbrev pub compare_spellings : List ℕ → MarkerOperator → List ℕ → List ℕ → Option Bool
compare_spellings left o right spelling =
    if list_any ends_operand spelling then compare_strings left o right else Some (str_eq_ignore_ascii_case left spelling)

-- a string with a specifier, if the operator and the other string are one; and otherwise two strings
abbrev pub compare_with : List ℕ → MarkerOperator → List ℕ → Option Spec → Option Bool
compare_with left o right None = compare_strings left o right
compare_with left o right (Some s) = Some (matches_specifier s (ascii_version left))

-- what stands behind `===`, if the string begins with it
abbrev pub spelling_in : List ℕ → Option (List ℕ)
spelling_in (a ∷ b ∷ c ∷ rest) = if (a == 61) && ((b == 61) && (c == 61)) then Some (trim_blanks rest) else None
spelling_in _ = None

abbrev pub compare_spelled : List ℕ → MarkerOperator → List ℕ → List ℕ → Option (List ℕ) → Option Bool
compare_spelled left o right written None = compare_with left o right (ascii_specifier written)
compare_spelled left o right written (Some spelling) = compare_spellings left o right spelling

-- two strings of which the second may be a version; written is the operator and the second
abbrev pub compare_written : List ℕ → MarkerOperator → List ℕ → List ℕ → Option Bool
compare_written left o right written = compare_spelled left o right written (spelling_in written)

abbrev pub compare_versions : List ℕ → MarkerOperator → List ℕ → Option Bool
compare_versions left o right = compare_written left o right (marker_operator_text o ++ right)

-- ---- names

-- a name, and names: only `in` and `not in` ask for one
abbrev pub compare_names : List ℕ → MarkerOperator → List (List ℕ) → Option Bool
compare_names left operator.In names = Some (list_any (λ n. bytes_eq (normal n) (normal left)) names)
compare_names left operator.NotIn names = Some (not (list_any (λ n. bytes_eq (normal n) (normal left)) names))
compare_names left operator.NotEqual names = Some true
compare_names left operator.Compatible names = None
compare_names left operator.Arbitrary names = None
compare_names left _ names = Some false

-- ---- variables

-- variables that are versions
abbrev pub is_version_variable : List ℕ → Bool
is_version_variable name = bytes_eq name (codes "python_version") || (bytes_eq name (codes "python_full_version")
    || (bytes_eq name (codes "implementation_version") || bytes_eq name (codes "platform_release")))

-- variables that are names
abbrev pub is_name_variable : List ℕ → Bool
is_name_variable name = bytes_eq name (codes "extra") || (bytes_eq name (codes "extras") || bytes_eq name (codes "dependency_groups"))

-- two strings, of which one is that of the variable
abbrev pub compare_texts : List ℕ → List ℕ → MarkerOperator → List ℕ → Option Bool
compare_texts name left o right = if is_version_variable name then compare_versions left o right
    else if is_name_variable name then compare_strings (normal left) o (normal right) else compare_strings left o right

-- the variable on the left: it must be a string
abbrev pub compare_left : List ℕ → MarkerOperator → List ℕ → Option Setting → Option Bool
compare_left name o right None = None
compare_left name o right (Some (Names names)) = None
compare_left name o right (Some (Text left)) = compare_texts name left o right

-- the variable on the right
abbrev pub compare_right : List ℕ → MarkerOperator → List ℕ → Option Setting → Option Bool
compare_right left o name None = None
compare_right left o name (Some (Names names)) = compare_names left o names
compare_right left o name (Some (Text right)) = compare_texts name left o right

-- a comparison; beside a variable another stands for its name
abbrev pub compare : Environment → Side → MarkerOperator → Side → Option Bool
compare environment (Variable name) o (Constant right) = compare_left name o right (environment name)
compare environment (Variable name) o (Variable right) = compare_left name o right (environment name)
compare environment (Constant left) o (Variable name) = compare_right left o name (environment name)
compare environment _ o _ = None
