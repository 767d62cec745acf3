-- The output of `filter`: the versions of the input's lines that the list contains, in ascending order.
use Rattle.std.specs.Prelude.{◌≡◌, ◌⊎◌, ◌==◌, ◌||◌, ℕ, List, Bool, codes, map, not}
use Rattle.std.specs.List.{enumerate_from, filter, list_all}
use Rattle.std.specs.Str.{IsUtf8}
use Rattle.cli_io.specs.Newlines.{input_lines}
use Rattle.pep440_rs.specs.Arrangement.{ArrangesBy}
use Rattle.pep440_rs.specs.Matching.{list_matches}
use Rattle.pep440_rs.specs.Specifiers.{Spec}
use Rattle.pep440_version.specs.ErrorTexts.{rejection_text}
use Rattle.pep440_version.specs.Grammar.{Derives}
use Rattle.pep440_version.specs.Key.{record_cmp}
use Rattle.pep440_version.specs.Print.{print}
use Rattle.pep440_version.specs.Record.{Record}
use Rattle.pep440_version.specs.Rejections.{Rejection, Rejects}
use Rattle.pep440_tool.specs.Answers.{ReadsEach, ReadsList, ToolAnswer, line_fault_text, shown_error, shown_lines}

-- ---- lines

-- a tab, form feed, carriage return or space
abbrev pub is_line_blank : ℕ → Bool
is_line_blank b = (b == 9) || ((b == 12) || ((b == 13) || (b == 32)))

-- a line of blanks alone, or an empty one
abbrev pub is_skipped : List ℕ → Bool
is_skipped text = list_all is_line_blank text

-- the lines that are not skipped, each with its number, counted from this number
abbrev pub numbered_from : ℕ → List (List ℕ) → List (ℕ × List ℕ)
numbered_from first texts = filter (λ (line : ℕ × List ℕ). not (is_skipped line.1)) (enumerate_from first texts)

-- the lines that are not skipped, each with its number, counted from 1
abbrev pub numbered_lines : List ℕ → List (ℕ × List ℕ)
numbered_lines input = numbered_from 1 (input_lines input)

-- ---- lines that denote something, or are rejected

-- the line is UTF-8 and denotes this value
abbrev pub LineDenotes : {A : Type 0} → (List ℕ → A → Type 0) → ℕ × List ℕ → A → Type 0
LineDenotes Denotes line x = IsUtf8 line.1 × Denotes line.1 x

-- the answer is the error of a line: not UTF-8, or the reason for which it denotes nothing, with its number
abbrev pub RejectsLine : {F : Type 0} → (List ℕ → F → Type 0) → (ℕ → F → ToolAnswer) → ℕ × List ℕ → ToolAnswer → Type 0
RejectsLine {F} Rejects answer_at line a = ((¬ IsUtf8 line.1) × (a ≡ shown_error (line_fault_text line.0 (codes "not UTF-8"))))
    ⊎ (IsUtf8 line.1 × ((f : F) × Rejects line.1 f × (a ≡ answer_at line.0 f)))

-- ---- versions

-- the error of a line that is no version
abbrev pub shown_version_error : ℕ → Rejection → ToolAnswer
shown_version_error number f = shown_error (line_fault_text number (rejection_text f))

-- the answer has the versions that the list contains, a line each, in ascending order
abbrev pub ShowsContained : List Spec → List Record → ToolAnswer → Type 0
ShowsContained list found a = (shown : List Record) × ArrangesBy record_cmp (filter (list_matches list) found) shown × (a ≡ shown_lines (map print shown))

-- `filter SPECS`: SPECS is parsed, and then the lines of the input
abbrev pub FilterAnswer : List ℕ → List ℕ → ToolAnswer → Type 0
FilterAnswer specifiers input a =
    ReadsList specifiers (λ list. ReadsEach (LineDenotes Derives) (RejectsLine Rejects shown_version_error) (numbered_lines input) (λ found. ShowsContained list found a) a) a
