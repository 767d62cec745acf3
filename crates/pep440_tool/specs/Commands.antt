-- The command that the words of a call name, and its answer.
use Rattle.std.specs.Prelude.{◌≡◌, ℕ, List, [], ◌∷◌, Bool, true, false, codes, bytes_eq, if◌then◌else◌}
use Rattle.pep440_tool.specs.Answers.{ToolAnswer, CompareAnswer, EditAnswer, MatchAnswer, RangeAnswer, ShowAnswer, usage_answer}
use Rattle.pep440_tool.specs.Lines.{FilterAnswer}
use Rattle.pep440_tool.specs.Picks.{PickAnswer}

-- a command with its words, or that the usage line is wanted
pub data CommandRequest : Type 0 where
  Show : List ℕ → CommandRequest
  Compare : List ℕ → List ℕ → CommandRequest
  Match : List ℕ → List ℕ → CommandRequest
  Edit : List ℕ → List (List ℕ) → CommandRequest
  Range : List ℕ → CommandRequest
  Filter : List ℕ → CommandRequest
  Pick : List ℕ → List (List ℕ) → CommandRequest
  Usage : CommandRequest

-- a command of exactly one word; otherwise usage
abbrev pub one : (List ℕ → CommandRequest) → List (List ℕ) → CommandRequest
one command [] = Usage
one command (a ∷ []) = command a
one command (a ∷ b ∷ rest) = Usage

-- a command of exactly two words; otherwise usage
abbrev pub two : (List ℕ → List ℕ → CommandRequest) → List (List ℕ) → CommandRequest
two command [] = Usage
two command (a ∷ []) = Usage
two command (a ∷ b ∷ []) = command a b
two command (a ∷ b ∷ c ∷ rest) = Usage

-- a command of one word or more; otherwise usage
abbrev pub one_or_more : (List ℕ → List (List ℕ) → CommandRequest) → List (List ℕ) → CommandRequest
one_or_more command [] = Usage
one_or_more command (a ∷ rest) = command a rest

-- a command of two words or more; otherwise usage
abbrev pub one_and_some : (List ℕ → List (List ℕ) → CommandRequest) → List (List ℕ) → CommandRequest
one_and_some command [] = Usage
one_and_some command (a ∷ []) = Usage
one_and_some command (a ∷ b ∷ rest) = command a (b ∷ rest)

-- the command that a name and its words ask for
abbrev pub request_by_name : List ℕ → List (List ℕ) → CommandRequest
request_by_name command words =
    if bytes_eq command (codes "show") then one Show words
    else if bytes_eq command (codes "compare") then two Compare words
    else if bytes_eq command (codes "match") then two Match words
    else if bytes_eq command (codes "edit") then one_or_more Edit words
    else if bytes_eq command (codes "range") then one Range words
    else if bytes_eq command (codes "filter") then one Filter words
    else if bytes_eq command (codes "pick") then one_and_some Pick words
    else Usage

-- the command that the words ask for, of which the first is its name
abbrev pub request_of_words : List (List ℕ) → CommandRequest
request_of_words [] = Usage
request_of_words (command ∷ words) = request_by_name command words

-- the answer to the command, with these bytes as the input
abbrev pub IsAnswer : CommandRequest → List ℕ → ToolAnswer → Type 0
IsAnswer (Show v) input a = ShowAnswer v a
IsAnswer (Compare v w) input a = CompareAnswer v w a
IsAnswer (Match specifiers v) input a = MatchAnswer specifiers v a
IsAnswer (Edit v changes) input a = EditAnswer v changes a
IsAnswer (Range specifiers) input a = RangeAnswer specifiers a
IsAnswer (Filter specifiers) input a = FilterAnswer specifiers input a
IsAnswer (Pick name candidates) input a = PickAnswer name candidates input a
IsAnswer Usage input a = a ≡ usage_answer

-- `filter` and `pick` alone read the input
abbrev pub reads_input : CommandRequest → Bool
reads_input (Filter specifiers) = true
reads_input (Pick name candidates) = true
reads_input _ = false

-- words and input have at most one answer
abbrev pub AnswerIsUnique : Type 0
AnswerIsUnique = (asked : CommandRequest) (input : List ℕ) (a b : ToolAnswer) → IsAnswer asked input a → IsAnswer asked input b → a ≡ b
