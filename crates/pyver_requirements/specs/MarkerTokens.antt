-- The tokens of an environment marker (PEP 508, "Grammar"; the older names of variables are those of `packaging` 25.0).
use Rattle.std.specs.Prelude.{ℕ, ◌-◌, ◌==◌, ◌&&◌, ◌||◌, List, [], ◌∷◌, Bool, Option, Some, None, bytes_eq, codes, drop, length, suc, zero, if◌then◌else◌}
use Rattle.std.specs.Char.{is_ascii_alphanumeric}
use Rattle.std.specs.List.{list_any}
use Rattle.std.specs.Option.{option_map_or}
use Rattle.pep440_rs.specs.Blanks.{opens}
use Rattle.pep440_version.specs.Grammar.{starts}
use Rattle.pep440_version.specs.Reading.{lead, past}
use Rattle.pyver_requirements.specs.LineParts.{before_byte, behind_byte, is_blank_byte, skip_blanks}
use Rattle.pyver_requirements.specs.Options.{is_quote}
use Rattle.pyver_requirements.specs.declared.marker_fault.MarkerFault.{MarkerFault}
use Rattle.pyver_requirements.specs.declared.marker_fault.MarkerFault.TheVariants as fault
use Rattle.pyver_requirements.specs.declared.marker_operator.MarkerOperator.{MarkerOperator}
use Rattle.pyver_requirements.specs.declared.marker_operator.MarkerOperator.TheVariants as operator

-- ---- words

-- ASCII letters and digits, `_` and `.`
abbrev pub is_word_byte : ℕ → Bool
is_word_byte b = is_ascii_alphanumeric b || ((b == 95) || (b == 46))

-- the word that the string begins with
abbrev pub marker_word : List ℕ → List ℕ
marker_word text = lead is_word_byte text

-- what follows that word
abbrev pub behind_word : List ℕ → List ℕ
behind_word text = past is_word_byte text

-- the string begins with this word
abbrev pub has_word : List ℕ → List ℕ → Bool
has_word text name = bytes_eq (marker_word text) name

-- ---- variables and strings

-- the name that stands for an older one
abbrev pub modern_name : List ℕ → List ℕ
modern_name name =
    if bytes_eq name (codes "os.name") then codes "os_name"
    else if bytes_eq name (codes "sys.platform") then codes "sys_platform"
    else if bytes_eq name (codes "platform.version") then codes "platform_version"
    else if bytes_eq name (codes "platform.machine") then codes "platform_machine"
    else if bytes_eq name (codes "platform.python_implementation") then codes "platform_python_implementation"
    else if bytes_eq name (codes "python_implementation") then codes "platform_python_implementation"
    else name

-- the names of variables; the last two are those of lock files
abbrev pub variables : List (List ℕ)
variables = codes "python_version" ∷ (codes "python_full_version" ∷ (codes "os_name" ∷ (codes "sys_platform" ∷ (codes "platform_release" ∷ (codes "platform_system"
    ∷ (codes "platform_version" ∷ (codes "platform_machine" ∷ (codes "platform_python_implementation" ∷ (codes "implementation_name"
    ∷ (codes "implementation_version" ∷ (codes "extra" ∷ (codes "extras" ∷ (codes "dependency_groups" ∷ [])))))))))))))

-- one side of a comparison: a variable, by its modern name; a string, without its quotes; neither, for this reason
pub data Side : Type 0 where
  Variable : List ℕ → Side
  Constant : List ℕ → Side
  Invalid : MarkerFault → Side

-- the variable with this name, if there is one
abbrev pub variable : List ℕ → Side
variable name = if list_any (λ v. bytes_eq v (modern_name name)) variables then Variable (modern_name name) else Invalid fault.MissingOperand

-- the string up to the quote that closes it, if one does; a backslash cannot stand in it
abbrev pub constant : List ℕ → Option (List ℕ) → Side
constant inside None = Invalid fault.UnclosedString
constant inside (Some rest) = if list_any (λ b. b == 92) inside then Invalid fault.Backslash else Constant inside

-- the side of a comparison that the string begins with
abbrev pub side : List ℕ → Side
side [] = Invalid fault.MissingOperand
side (b ∷ rest) = if is_quote b then constant (before_byte b rest) (behind_byte b rest) else variable (marker_word (b ∷ rest))

-- what follows it, without blanks
abbrev pub behind_side : List ℕ → List ℕ
behind_side [] = []
behind_side (b ∷ rest) = skip_blanks (if is_quote b then option_map_or (λ behind. behind) (behind_byte b rest) [] else behind_word (b ∷ rest))

-- ---- operators

-- `<`, `=`, `>`, `!` and `~`
abbrev pub is_operator_byte : ℕ → Bool
is_operator_byte b = (b == 60) || ((b == 61) || ((b == 62) || ((b == 33) || (b == 126))))

-- the operator of these bytes
abbrev pub symbol : List ℕ → Option MarkerOperator
symbol bytes =
    if bytes_eq bytes (codes "<") then Some operator.Less
    else if bytes_eq bytes (codes "<=") then Some operator.LessOrEqual
    else if bytes_eq bytes (codes "!=") then Some operator.NotEqual
    else if bytes_eq bytes (codes "==") then Some operator.Equal
    else if bytes_eq bytes (codes ">=") then Some operator.GreaterOrEqual
    else if bytes_eq bytes (codes ">") then Some operator.Greater
    else if bytes_eq bytes (codes "~=") then Some operator.Compatible
    else if bytes_eq bytes (codes "===") then Some operator.Arbitrary
    else None

-- `in`, or `not` and `in`
abbrev pub word_operator : List ℕ → Option MarkerOperator
word_operator text =
    if has_word text (codes "in") then Some operator.In
    else if has_word text (codes "not") && has_word (skip_blanks (behind_word text)) (codes "in") then Some operator.NotIn
    else None

-- the operator that the string begins with
abbrev pub comparing : List ℕ → Option MarkerOperator
comparing text = if starts is_operator_byte text then symbol (lead is_operator_byte text) else word_operator text

-- what follows it, without blanks
abbrev pub behind_comparing : List ℕ → List ℕ
behind_comparing text = skip_blanks (
    if starts is_operator_byte text then past is_operator_byte text
    else if has_word text (codes "not") then behind_word (skip_blanks (behind_word text))
    else behind_word text)

-- ---- tokens

-- a parenthesis; `and`; `or`; a comparison; the fault of one, and how many bytes there are from it on
pub data Token : Type 0 where
  Open : Token
  Close : Token
  And : Token
  Or : Token
  Compares : Side → MarkerOperator → Side → Token
  Faulty : MarkerFault → ℕ → Token

-- why this is not one side of a comparison
abbrev pub side_fault : Side → Option MarkerFault
side_fault (Variable name) = None
side_fault (Constant text) = None
side_fault (Invalid f) = Some f

-- the token, unless there is a fault, with so many bytes from it on
abbrev pub unless_faulty : Option MarkerFault → ℕ → Token → Token
unless_faulty None left token = token
unless_faulty (Some f) left token = Faulty f left

-- the comparison of this side with the one that the string begins with
abbrev pub comparison_with : Side → MarkerOperator → List ℕ → Token
comparison_with left o text = unless_faulty (side_fault (side text)) (length text) (Compares left o (side text))

-- the comparison of this side, from its operator on
abbrev pub comparison_by : Side → Option MarkerOperator → List ℕ → Token
comparison_by left None text = Faulty fault.MissingOperator (length text)
comparison_by left (Some o) text = comparison_with left o (behind_comparing text)

-- the comparison that the string begins with
abbrev pub comparison : List ℕ → Token
comparison text = unless_faulty (side_fault (side text)) (length text) (comparison_by (side text) (comparing (behind_side text)) (behind_side text))

-- the token that the string begins with
abbrev pub token : List ℕ → Token
token text =
    if opens 40 text then Open
    else if opens 41 text then Close
    else if has_word text (codes "and") then And
    else if has_word text (codes "or") then Or
    else comparison text

-- what follows it
abbrev pub behind_token : List ℕ → List ℕ
behind_token text =
    if opens 40 text || opens 41 text then drop 1 text
    else if has_word text (codes "and") || has_word text (codes "or") then behind_word text
    else behind_side (behind_comparing (behind_side text))

-- a token, and how many bytes there are from it on
pub record Lexeme : Type 0 where
  pub token : Token
  pub left : ℕ

-- the tokens of the string without so many bytes at its start; blanks stand between them
unfoldable pub lexemes : ℕ → List ℕ → List Lexeme
lexemes skipped [] = []
lexemes (suc skipped) (b ∷ rest) = lexemes skipped rest
lexemes zero (b ∷ rest) = if is_blank_byte b then lexemes 0 rest
    else record { token = token (b ∷ rest); left = length (b ∷ rest) } ∷ lexemes (length rest - length (behind_token (b ∷ rest))) rest
