-- The strings that denote specifiers (PEP 440, "Version specifiers"): blanks, an operator, blanks, a version, blanks and the end. A
-- blank is a character that Unicode calls white space.
use Rattle.std.specs.Prelude.{◌≡◌, ◌<◌, ◌||◌, ◌==◌, ℕ, List, [], ◌++◌, Bool, true, false, length, Ok, Err}
use Rattle.std.specs.Char.{is_whitespace, is_not_whitespace}
use Rattle.std.specs.List.{list_all}
use Rattle.std.specs.Str.{chars}
use Rattle.std.specs.Str.{encode_utf8_all}
use Rattle.pep440_version.specs.Grammar.{starts}
use Rattle.pep440_version.specs.Patterns.{DerivesPattern}
use Rattle.pep440_version.specs.Record.{Record}
use Rattle.pep440_version.specs.Rejections.{PatternRejection, RejectsPattern}
use Rattle.pep440_rs.specs.Build.{BuildRejection, built_pattern}
use Rattle.pep440_rs.specs.Operators.{Spells}
use Rattle.pep440_rs.specs.Specifiers.{Spec}
use Rattle.pep440_rs.specs.declared.specifier.operator.Operator.{Operator}

-- `=`, `!`, `~`, `<` and `>`
abbrev pub is_operator_char : ℕ → Bool
is_operator_char c = (c == 61) || (c == 33) || (c == 126) || (c == 60) || (c == 62)

-- the part passes the test and is as long as possible before the rest
abbrev pub IsRun : (ℕ → Bool) → List ℕ → List ℕ → Type 0
IsRun test part rest = (list_all test part ≡ true) × (starts test rest ≡ false)

-- a string is split into blanks, operator characters, blanks, other characters, blanks and the rest, each but the last as long
-- as possible
pub record SpecifierParts (text : List ℕ) : Type 0 where
  pub before : List ℕ
  pub operator : List ℕ
  pub between : List ℕ
  pub version : List ℕ
  pub after : List ℕ
  pub rest : List ℕ
  pub decomposition : chars text ≡ before ++ (operator ++ (between ++ (version ++ (after ++ rest))))
  pub before_run : IsRun is_whitespace before (operator ++ (between ++ (version ++ (after ++ rest))))
  pub operator_run : IsRun is_operator_char operator (between ++ (version ++ (after ++ rest)))
  pub between_run : IsRun is_whitespace between (version ++ (after ++ rest))
  pub version_run : IsRun is_not_whitespace version (after ++ rest)
  pub after_run : IsRun is_whitespace after rest

-- the operator and the version of such a split are valid
pub record ReadsParts {text : List ℕ} (c : SpecifierParts text) (o : Operator) (r : Record) (star : Bool) : Type 0 where
  pub operator : Spells (encode_utf8_all c.operator) o
  pub version : DerivesPattern (encode_utf8_all c.version) r star

-- the string denotes the specifier
abbrev pub DerivesSpecifier : List ℕ → Spec → Type 0
DerivesSpecifier text s = (c : SpecifierParts text) × (o : Operator) × (r : Record) × (star : Bool) × ReadsParts c o r star
    × (built_pattern o r star ≡ Ok s) × (c.rest ≡ [])

-- some string denotes the specifier
abbrev pub IsDenotedSpecifier : Spec → Type 0
IsDenotedSpecifier s = (text : List ℕ) × DerivesSpecifier text s

-- why a string is no specifier
pub data SpecifierRejection : Type 0 where
  MissingOperator : SpecifierRejection
  InvalidOperator : (got : List ℕ) → SpecifierRejection
  MissingVersion : SpecifierRejection
  InvalidVersion : PatternRejection → SpecifierRejection
  InvalidSpecifier : BuildRejection → SpecifierRejection
  InvalidTrailing : (rest : List ℕ) → SpecifierRejection

-- the reasons in the order in which they are tried: each holds only where none before it does
abbrev pub RejectsSpecifier : List ℕ → SpecifierRejection → Type 0
RejectsSpecifier text MissingOperator = (c : SpecifierParts text) × (c.operator ≡ [])
RejectsSpecifier text (InvalidOperator got) = (c : SpecifierParts text) × (0 < length c.operator) × (got ≡ encode_utf8_all c.operator) × ((o : Operator) → Spells got o → ⊥)
RejectsSpecifier text MissingVersion = (c : SpecifierParts text) × (o : Operator) × Spells (encode_utf8_all c.operator) o × (c.version ≡ [])
RejectsSpecifier text (InvalidVersion f) = (c : SpecifierParts text) × (o : Operator) × Spells (encode_utf8_all c.operator) o × (0 < length c.version) × RejectsPattern (encode_utf8_all c.version) f
RejectsSpecifier text (InvalidSpecifier b) = (c : SpecifierParts text) × (o : Operator) × (r : Record) × (star : Bool) × ReadsParts c o r star × (built_pattern o r star ≡ Err b)
RejectsSpecifier text (InvalidTrailing rest) = (c : SpecifierParts text) × (o : Operator) × (r : Record) × (star : Bool) × (s : Spec) × ReadsParts c o r star
    × (built_pattern o r star ≡ Ok s) × (0 < length c.rest) × (rest ≡ encode_utf8_all c.rest)
