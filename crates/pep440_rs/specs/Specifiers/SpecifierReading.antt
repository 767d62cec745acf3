-- How a specifier is read, from the left: a second view of the grammar, which computes.
use Rattle.std.specs.Prelude.{ℕ, ◌==◌, List, Bool, length, codes, Option, Some, None, Result, Ok, Err, if◌then◌else◌}
use Rattle.std.specs.Str.{encode_utf8_all}
use Rattle.std.specs.Char.{is_whitespace, is_not_whitespace}
use Rattle.std.specs.Str.{bytes_eq, chars}
use Rattle.pep440_version.specs.Reading.{lead, past}
use Rattle.pep440_version.specs.Record.{Record}
use Rattle.pep440_version.specs.Rejections.{PatternRejection}
use Rattle.pep440_version.specs.Whole.{read_pattern}
use Rattle.pep440_rs.specs.Build.{BuildRejection, built_pattern}
use Rattle.pep440_rs.specs.Specifiers.SpecifierGrammar.{SpecifierRejection, MissingOperator, InvalidOperator, MissingVersion, InvalidVersion, InvalidSpecifier, InvalidTrailing, is_operator_char}
use Rattle.pep440_rs.specs.Specifiers.{Spec}
use Rattle.pep440_rs.specs.declared.specifier.operator.Operator.{Operator}
use Rattle.pep440_rs.specs.declared.specifier.operator.Operator.TheVariants.{Equal, ExactEqual, NotEqual, TildeEqual, LessThan, LessThanEqual, GreaterThan, GreaterThanEqual}
use Rattle.pep440_rs.specs.declared.specifier.scan.Run.{Run}
use Rattle.pep440_rs.specs.declared.specifier.scan.Run.TheVariants as run

-- the characters that a run is made of
abbrev pub passes : Run → ℕ → Bool
passes run.Blanks = is_whitespace
passes run.Operator = is_operator_char
passes run.Word = is_not_whitespace

abbrev pub read_operator : List ℕ → Option Operator
read_operator text =
    if bytes_eq text (codes "==") then Some Equal
    else if bytes_eq text (codes "===") then Some ExactEqual
    else if bytes_eq text (codes "!=") then Some NotEqual
    else if bytes_eq text (codes "~=") then Some TildeEqual
    else if bytes_eq text (codes "<") then Some LessThan
    else if bytes_eq text (codes "<=") then Some LessThanEqual
    else if bytes_eq text (codes ">") then Some GreaterThan
    else if bytes_eq text (codes ">=") then Some GreaterThanEqual
    else None

abbrev pub ended : Result Spec BuildRejection → List ℕ → Result Spec SpecifierRejection
ended (Err b) rest = Err (InvalidSpecifier b)
ended (Ok s) rest = if length rest == 0 then Ok s else Err (InvalidTrailing rest)

abbrev pub with_pattern : Operator → Result (Record × Bool) PatternRejection → List ℕ → Result Spec SpecifierRejection
with_pattern o (Err f) rest = Err (InvalidVersion f)
with_pattern o (Ok p) rest = ended (built_pattern o p.0 p.1) rest

abbrev pub with_operator : List ℕ → Option Operator → List ℕ → List ℕ → Result Spec SpecifierRejection
with_operator got None version rest = Err (InvalidOperator got)
with_operator got (Some o) version rest =
    if length version == 0 then Err MissingVersion else with_pattern o (read_pattern version) rest

-- what the operator, the version and the rest of a string give
unfoldable pub read_parts : List ℕ → List ℕ → List ℕ → Result Spec SpecifierRejection
read_parts operator version rest =
    if length operator == 0 then Err MissingOperator else with_operator operator (read_operator operator) version rest

-- the parts of the characters of a string, from the operator on
abbrev pub from_operator : List ℕ → List ℕ
from_operator text = past is_whitespace (chars text)

abbrev pub from_version : List ℕ → List ℕ
from_version text = past is_whitespace (past is_operator_char (from_operator text))

abbrev pub from_rest : List ℕ → List ℕ
from_rest text = past is_whitespace (past is_not_whitespace (from_version text))

-- what the string reads as
abbrev pub read_specifier : List ℕ → Result Spec SpecifierRejection
read_specifier text = read_parts (encode_utf8_all (lead is_operator_char (from_operator text)))
    (encode_utf8_all (lead is_not_whitespace (from_version text))) (encode_utf8_all (from_rest text))
