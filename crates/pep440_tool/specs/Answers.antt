-- What the program prints: bytes and a status. Each command's answer is determined by what its words denote.
use Rattle.std.specs.Prelude.{◌≡◌, ◌⊎◌, ℕ, List, ◌∷◌, ◌++◌, Bool, true, false, codes, Option, Some, None, Result, Ok, Err, []}
use Rattle.std.specs.Fmt.{decimal}
use Rattle.std.specs.List.{AllZip, enumerate_from, flat_map}
use Rattle.std.specs.declared.cmp.Ordering.{Ordering}
use Rattle.std.specs.declared.cmp.Ordering.TheVariants.{Less, Equal, Greater}
use Rattle.pep440_version.specs.Changes.ChangeWords.{change_of, not_a_change_text}
use Rattle.pep440_version.specs.Sentinels.{print_with_sentinels}
use Rattle.pep440_rs.specs.Bounds.{Segments, range_of, list_range}
use Rattle.pep440_rs.specs.ErrorTexts.{range_error_text}
use Rattle.pep440_rs.specs.Lists.ListErrorTexts.{list_rejection_text}
use Rattle.pep440_rs.specs.Lists.ListGrammar.{DerivesList, PieceRejection, RejectsList}
use Rattle.pep440_rs.specs.Matching.{list_matches}
use Rattle.pep440_rs.specs.RangeLines.{range_lines}
use Rattle.pep440_rs.specs.Specifiers.{Spec}
use Rattle.pep440_rs.specs.declared.range.error.RangeError.TheVariants.{NumberAtMax}
use Rattle.pep440_version.specs.Changes.{Edit, apply_edits}
use Rattle.pep440_version.specs.ErrorTexts.{rejection_text, change_error_text}
use Rattle.pep440_version.specs.Grammar.{Derives}
use Rattle.pep440_version.specs.Key.{record_cmp}
use Rattle.pep440_version.specs.Print.{print}
use Rattle.pep440_version.specs.Record.{Record}
use Rattle.pep440_version.specs.Rejections.{Rejection, Rejects}
use Rattle.pep440_version.specs.declared.change.ChangeError.{ChangeError}

-- ---- the fixed strings of the program, each a line of its own

-- the string and a newline
abbrev pub line : List ℕ → List ℕ
line text = text ++ 10 ∷ []

-- each string as a line
abbrev pub lines_of : List (List ℕ) → List ℕ
lines_of texts = flat_map line texts

-- the usage line
abbrev pub usage_text : List ℕ
usage_text = codes "usage: pep440 show V / compare A B / match SPECS V / edit V CHANGE.. / range SPECS / filter SPECS / pick NAME V..\n"

-- the line `error: out of memory`
abbrev pub memory_text : List ℕ
memory_text = codes "error: out of memory\n"

-- what is written, and the status of the process
pub record ToolAnswer : Type 0 where
  pub output : List ℕ
  pub status : ℕ

-- status 0 and each string as a line
abbrev pub shown_lines : List (List ℕ) → ToolAnswer
shown_lines texts = record { output = lines_of texts; status = 0 }

-- status 0 and the string as a line
abbrev pub shown : List ℕ → ToolAnswer
shown text = record { output = line text; status = 0 }

-- status 1 and the error's message as a line
abbrev pub shown_error : List ℕ → ToolAnswer
shown_error text = record { output = line (codes "error: " ++ text); status = 1 }

-- status 1 and the message of a list's error, which has line ends of its own
abbrev pub shown_list_error : List ℕ → ToolAnswer
shown_list_error text = record { output = codes "error: " ++ text; status = 1 }

-- status 2 and the usage line: no such command, or a wrong number of words
abbrev pub usage_answer : ToolAnswer
usage_answer = record { output = usage_text; status = 2 }

-- ---- words that denote something, or are rejected

-- the answer is the error of a word that is no version
abbrev pub RejectsWord : List ℕ → ToolAnswer → Type 0
RejectsWord word a = (f : Rejection) × Rejects word f × (a ≡ shown_error (rejection_text f))

-- the word denotes a version of which this holds, or the answer is its error
abbrev pub ReadsVersion : List ℕ → (Record → Type 0) → ToolAnswer → Type 0
ReadsVersion word Then a = ((r : Record) × Derives word r × Then r) ⊎ RejectsWord word a

-- the answer is the error of a word that is no list
abbrev pub RejectsListWord : List ℕ → ToolAnswer → Type 0
RejectsListWord word a = (f : PieceRejection) × RejectsList word f × (a ≡ shown_list_error (list_rejection_text f word))

-- the word denotes a list of which this holds, or the answer is its error
abbrev pub ReadsList : List ℕ → (List Spec → Type 0) → ToolAnswer → Type 0
ReadsList word Then a = ((list : List Spec) × DerivesList word list × Then list) ⊎ RejectsListWord word a

-- ---- strings with their numbers, one after another

module _ {A : Type 0} (Denotes : ℕ × List ℕ → A → Type 0) (RejectsText : ℕ × List ℕ → ToolAnswer → Type 0) where
  -- the answer is the error of the first invalid string
  pub record RejectsFirst (texts : List (ℕ × List ℕ)) (a : ToolAnswer) : Type 0 where
    pub before : List (ℕ × List ℕ)
    pub text : ℕ × List ℕ
    pub after : List (ℕ × List ℕ)
    pub split : texts ≡ before ++ (text ∷ after)
    pub found : List A
    pub means : AllZip Denotes before found
    pub why : RejectsText text a

  -- all strings are valid, and this holds of their values in order; or the answer is the error of the first invalid one
  abbrev pub ReadsEach : List (ℕ × List ℕ) → (List A → Type 0) → ToolAnswer → Type 0
  ReadsEach texts Then a = ((found : List A) × AllZip Denotes texts found × Then found) ⊎ RejectsFirst texts a

-- ---- versions

-- `show V`: the normalized form of V
abbrev pub ShowAnswer : List ℕ → ToolAnswer → Type 0
ShowAnswer text a = ReadsVersion text (λ r. a ≡ shown (print r)) a

-- `<`, `=` or `>`
abbrev pub sign_of : Ordering → List ℕ
sign_of Less = codes "<"
sign_of Equal = codes "="
sign_of Greater = codes ">"

-- `compare A B`: the order of A and B; A is parsed first
abbrev pub CompareAnswer : List ℕ → List ℕ → ToolAnswer → Type 0
CompareAnswer left right a = ReadsVersion left (λ r. ReadsVersion right (λ q. a ≡ shown (sign_of (record_cmp r q))) a) a

-- the changed version with its sentinels, or the error of the first change that cannot be made
abbrev pub edited_answer : Result Record ChangeError → ToolAnswer
edited_answer (Ok r) = shown (print_with_sentinels r)
edited_answer (Err e) = shown_error (change_error_text e)

-- ---- messages of errors with their numbers

-- the message of an invalid candidate: `candidate`, its number and the reason
abbrev pub candidate_fault_text : ℕ → List ℕ → List ℕ
candidate_fault_text number fault = codes "candidate " ++ (decimal number ++ (codes ": " ++ fault))

-- the message of an invalid line: `line`, its number and the reason
abbrev pub line_fault_text : ℕ → List ℕ → List ℕ
line_fault_text number fault = codes "line " ++ (decimal number ++ (codes ": " ++ fault))

-- the word denotes this change
abbrev pub DenotesChange : ℕ × List ℕ → Edit → Type 0
DenotesChange word edit = change_of word.1 ≡ Some edit

-- the answer is the error of the first word that denotes no change
abbrev pub RejectsChange : ℕ × List ℕ → ToolAnswer → Type 0
RejectsChange word a = (change_of word.1 ≡ None) × (a ≡ shown_error (not_a_change_text word.0))

-- `edit V CHANGE..`: V is parsed, then all words, and then the changes are made
abbrev pub EditAnswer : List ℕ → List (List ℕ) → ToolAnswer → Type 0
EditAnswer text words a = ReadsVersion text (λ r. ReadsEach DenotesChange RejectsChange (enumerate_from 1 words) (λ edits. a ≡ edited_answer (apply_edits 1 r edits)) a) a

-- ---- lists of specifiers

-- `yes` or `no`
abbrev pub yes_or_no : Bool → List ℕ
yes_or_no true = codes "yes"
yes_or_no false = codes "no"

-- `match SPECS V`: whether the list contains V; SPECS is parsed first
abbrev pub MatchAnswer : List ℕ → List ℕ → ToolAnswer → Type 0
MatchAnswer specifiers text a = ReadsList specifiers (λ list. ReadsVersion text (λ r. a ≡ shown (yes_or_no (list_matches list r))) a) a

-- the lines of the range, or the error that a number cannot be raised
abbrev pub range_answer : Option Segments → ToolAnswer
range_answer (Some range) = record { output = range_lines range; status = 0 }
range_answer None = shown_error (range_error_text NumberAtMax)

-- `range SPECS`: the range of the list
abbrev pub RangeAnswer : List ℕ → ToolAnswer → Type 0
RangeAnswer specifiers a = ReadsList specifiers (λ list. a ≡ range_answer (list_range range_of list)) a
