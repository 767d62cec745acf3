-- Commands that read all sources before they write.
use Rattle.pyver_commands.specs.Sources.LineOptions.{bare_line_options}
use Rattle.cli_io.specs.Runs.{Outcome}
use Rattle.pyver_commands.specs.NewestOutcomes.{FindsNewest}
use Rattle.pyver_commands.specs.Sorts.{SortsParts}
use Rattle.pyver_commands.specs.Sources.{Input}
use Rattle.pyver_commands.specs.Sources.VersionLines.{InputParts, OfVersions, VersionLine}
use Rattle.pyver_commands.specs.declared.sources.line_options.LineOptions.{LineOptions}
use Rattle.pyver_commands.specs.declared.whole_input.LinesQuestion.{LinesQuestion}
use Rattle.pyver_commands.specs.declared.whole_input.LinesQuestion.TheVariants as lines_question
use Rattle.pyver_commands.specs.declared.whole_input.Question.{Question}
use Rattle.pyver_commands.specs.declared.whole_input.Question.TheVariants as question
use Rattle.std.specs.Prelude.{◌≡◌, ℕ, List, [], ◌∷◌, Option, codes}
use Rattle.pyver_commands.specs.Bumps.{bump, result_outcome}
use Rattle.pyver_commands.specs.Outcomes.{message_outcome}
use Rattle.pyver_commands.specs.declared.bump.BumpPart.{BumpPart}

-- what is written of the lines that are versions, of which there has to be one
abbrev pub only_outcome : Option ℕ → List BumpPart → List VersionLine → Outcome
only_outcome to parts [] = message_outcome (codes "pyver: no version on standard input\n")
only_outcome to parts (line ∷ []) = result_outcome line.text (bump to parts line.version)
only_outcome to parts (line ∷ (next ∷ rest)) = message_outcome (codes "pyver: more than one version on standard input\n")

-- what is written of lines that were read, none of them invalid
abbrev pub BumpsOnly : Option ℕ → List BumpPart → InputParts → Outcome → Type 0
BumpsOnly to parts lines o = o ≡ only_outcome to parts lines.versions

-- what is written of standard input: an invalid line is an error, and a blank one none
abbrev pub BumpsInput : Option ℕ → List BumpPart → Input → Outcome → Type 0
BumpsInput to parts input o = OfVersions bare_line_options (BumpsOnly to parts) input o

-- how lines are read
abbrev pub question_lines : LinesQuestion → LineOptions
question_lines (lines_question.Sort options) = options.lines
question_lines (lines_question.Bump rule) = bare_line_options

-- what is written of lines that were read, where no invalid one is an error
abbrev pub IsOutcomeOfParts : LinesQuestion → InputParts → Outcome → Type 0
IsOutcomeOfParts (lines_question.Sort options) parts o = SortsParts options parts o
IsOutcomeOfParts (lines_question.Bump rule) parts o = BumpsOnly rule.to rule.parts.items parts o

abbrev pub IsOutcomeOfLines : LinesQuestion → Input → Outcome → Type 0
IsOutcomeOfLines asked input o = OfVersions (question_lines asked) (IsOutcomeOfParts asked) input o

-- what is written of what was read
abbrev pub IsOutcomeOfInput : Question → Input → Outcome → Type 0
IsOutcomeOfInput (question.Newest rule) input o = OfVersions rule.lines (FindsNewest rule) input o
IsOutcomeOfInput (question.Lines asked) input o = IsOutcomeOfLines asked input o
