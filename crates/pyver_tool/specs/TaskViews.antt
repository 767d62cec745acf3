-- What the program's commands say, and what they have to do once the words are read, apart from where they lie in memory.
use Rattle.std.specs.Prelude.{Bool, Err, List, None, Ok, Option, Result, Some, [], map, option_map, string_bytes, ℕ, ◌≡◌, ◌⊎◌}
use Rattle.pyver_tool.specs.SplitWords.{Awaits, End, Given, Missing, Named, Split, Unknown, UnknownWord, Whole, pipenv_message, version_last_message, row_of}
use Rattle.pyver_tool.specs.Tasks.{Check, Compare, Filter, Help, IsOutcome, IsStream, Marker, Match, Misused, NameVersion, NeedsInput, Newest, Range, Show, Sort, Task, bump_from_words, by_split, help_text, names_read_by, wrong_command, wrong_count, wrong_end, wrong_operator, wrong_option, wrong_part, wrong_value}
use Rattle.pyver_tool.specs.declared.command.Command.{Command}
use Rattle.pyver_tool.specs.declared.words.Words.{Words}
use Rattle.pyver_tool.specs.declared.misuse.Misuse.{Misuse}
use Rattle.pyver_tool.specs.Checks.{CheckResult, Checks, FailsInCheck}
use Rattle.pyver_tool.specs.RequirementFiles.{unopened_file_of}
use Rattle.pyver_tool.specs.declared.check.CheckResult.{CheckResult as CheckResultValue}
use Rattle.pyver_findings.specs.Views.{report_of}
use Rattle.pyver_tool.specs.declared.words.Split.{Split as WordSplit}
use Rattle.pyver_tool.specs.declared.words.WordEnd.{WordEnd}
use Rattle.pyver_commands.specs.AnswerViews.{outcome_of}
use Rattle.pyver_commands.specs.Filters.{Filters}
use Rattle.cli_io.specs.Runs.{AtOnce, Ends, InParts, Nothing, Outcome, OutputProgress}
use Rattle.pyver_commands.specs.Sources.{FindsOutput, Input, KnownFile, ReadsInput, output_outcome, source_names}
use Rattle.pyver_commands.specs.WholeInputs.{IsOutcomeOfInput}
use Rattle.pyver_commands.specs.declared.answer.Answer.{Answer}
use Rattle.pyver_commands.specs.declared.sources.stream.RunFailure.{RunFailure}
use Rattle.pyver_tool.specs.declared.command.Work.{Work}
use Rattle.pyver_commands.specs.Sources.RunFailures.{FailsWithin, FailsWithoutOutcome, IsWriteFailure, Reports}
use Rattle.pyver_tool.specs.declared.check.CheckOptions.{CheckOptions}
use Rattle.pyver_tool.specs.declared.command.Command.TheVariants as command
use Rattle.pyver_tool.specs.declared.words.Words.TheVariants as words
use Rattle.pyver_tool.specs.declared.help.Topic.TheVariants as topic
use Rattle.pyver_tool.specs.declared.misuse.Misuse.TheVariants as misuse
use Rattle.pyver_tool.specs.declared.words.Split.TheVariants as split
use Rattle.pyver_tool.specs.declared.words.WordEnd.TheVariants as end
use Rattle.pyver_tool.specs.declared.command.Work.TheVariants as work
use Rattle.pyver_commands.specs.declared.sources.stream.RunFailure.TheVariants as run_failure

module _ (Finishes : Outcome → Type 0) (Early : RunFailure → Type 0) (Within : Outcome → RunFailure → Type 0) where
  -- a run may stop before there is an outcome, where a write of an outcome failed, or within the input of an outcome
  abbrev pub MayFailBy : OutputProgress → ℕ → List ℕ → Type 0
  MayFailBy Nothing status message = (why : RunFailure) × Early why × Reports why status message
  MayFailBy (AtOnce o) status message = Finishes o × IsWriteFailure status message
  MayFailBy (InParts o) status message = (why : RunFailure) × Within o why × Reports why status message

  -- a run finishes with such an outcome, or stops so
  abbrev pub EndsBy : {W E : Type 0} → (W → Option (List ℕ)) → (E → Option (List ℕ)) → W → W → E → E → ℕ → Type 0
  EndsBy contents error_contents out out' err err' status = Ends contents error_contents Finishes MayFailBy out out' err err' status

module _ {R : Type 0} (files : List ℕ → KnownFile) (paths : List ℕ → Option (List ℕ)) (outputs : List ℕ → Option Bool) (remaining : R → Option (List ℕ)) (task : Task) (reader reader' : R) where
  -- this source of a command that prints lines before all are read is also the output, or none is
  abbrev pub Meets : Option (List ℕ) → Type 0
  Meets found = IsStream task → FindsOutput outputs (names_read_by task) found

  -- the outcome once all was read that the task needs, or all sources before a file that was not opened; or nothing was read, since a
  -- source is also the output
  abbrev pub FinishesTask : Outcome → Type 0
  FinishesTask o = ((input : Input) × (NeedsInput task → Meets None × ReadsInput files remaining (names_read_by task) reader reader' input) × IsOutcome task input o)
      ⊎ (((name : List ℕ) × IsStream task × NeedsInput task × Meets (Some name) × (o ≡ output_outcome name) × (reader' ≡ reader))
      ⊎ ((options : CheckOptions) × (names : List (List ℕ)) × (task ≡ Check options names) × Checks files paths remaining options names reader reader' o))

  -- there is no outcome: an allocation failed before anything was read, or reading stopped, or an allocation failed after it
  abbrev pub FailsEarly : RunFailure → Type 0
  FailsEarly why = ((why ≡ run_failure.OutOfMemory) × (reader' ≡ reader))
      ⊎ ((NeedsInput task × FailsWithoutOutcome files remaining (names_read_by task) reader reader' why)
      ⊎ ((options : CheckOptions) × (names : List (List ℕ)) × (task ≡ Check options names) × FailsInCheck files paths remaining options names reader reader' why))

  -- a command that prints lines before all are read stopped, and this is the outcome of those that were read
  abbrev pub FailsInStream : Outcome → RunFailure → Type 0
  FailsInStream o why = IsStream task × NeedsInput task × Meets None × FailsWithin files remaining (IsOutcome task) (names_read_by task) reader reader' o why

  -- the run finishes or stops so
  abbrev pub TaskEnds : {W E : Type 0} → (W → Option (List ℕ)) → (E → Option (List ℕ)) → W → W → E → E → ℕ → Type 0
  TaskEnds contents error_contents out out' err err' status = EndsBy FinishesTask FailsEarly FailsInStream contents error_contents out out' err err' status

abbrev pub named_of : {S T : Type 0} (text : S → List ℕ) (texts : T → List S) → ((S × S × S × T) × Bool) → Named
named_of text texts option = (row_of text texts option.0, option.1)

abbrev pub option_with_value : {S T V : Type 0} (text : S → List ℕ) (texts : T → List S) (value : V → List ℕ) → (((S × S × S × T) × Bool) × V) → Named × List ℕ
option_with_value text texts value given = (named_of text texts given.0, value given.1)

abbrev pub end_of : WordEnd → End
end_of end.Whole = Whole
end_of (end.Awaits option) = Awaits (named_of (λ s. s.now) (λ t. t.now) option)
end_of end.Unknown = Unknown

abbrev pub split_of : WordSplit → Split
split_of (split.Given options operands) = Given (map (option_with_value (λ s. s.now) (λ t. t.now) string_bytes) options.items) (map string_bytes operands.items)
split_of (split.Unknown word) = UnknownWord (string_bytes word)
split_of (split.Missing option) = Missing (named_of (λ s. s.now) (λ t. t.now) option)

abbrev pub misuse_message : Misuse → List ℕ
misuse_message (misuse.Command word) = wrong_command word.now
misuse_message (misuse.Option topic word) = wrong_option topic word.now
misuse_message (misuse.Value topic option word) = wrong_value topic (named_of (λ s. s.now) (λ t. t.now) option) word.now
misuse_message (misuse.Missing topic option) = wrong_end topic (named_of (λ s. s.now) (λ t. t.now) option)
misuse_message (misuse.OfPipenv word) = pipenv_message word.now
misuse_message (misuse.Comparison word) = wrong_operator word.now
misuse_message (misuse.BumpPart word) = wrong_part word.now
misuse_message (misuse.VersionFirst to word rest) = version_last_message to word.now (map string_bytes rest.now)
misuse_message (misuse.Count topic) = wrong_count topic
misuse_message misuse.NoWords = help_text topic.Program

abbrev pub task : Command → Task
task (command.Help topic) = Help topic
task command.Version = NameVersion
task (command.Compare left comparison right) = Compare left.now comparison right.now
task (command.Match options specifiers versions) = Match options specifiers.now (map string_bytes versions.now)
task (command.Filter options specifiers names) = Filter options specifiers.now (map string_bytes names.now)
task (command.Sort options names) = Sort options (map string_bytes names.now)
task (command.Newest options specifiers names) = Newest options specifiers.now (map string_bytes names.now)
task (command.Show asked versions) = Show asked (map string_bytes versions.now)
task (command.Bump to parts version) = bump_from_words to [] (map string_bytes parts.now) (option_map (λ v. v.now) version)
task (command.Range options lists) = Range options (map string_bytes lists.now)
task (command.Marker linked marker other) = Marker linked marker.now (option_map (λ w. w.now) other)
task (command.Check options names) = Check options (map string_bytes names.now)
task (command.Misused why) = Misused (misuse_message why)

-- the task of what the words are
abbrev pub words_task : Words → Task
words_task (words.Help topic) = Help topic
words_task words.Version = NameVersion
words_task (words.Command topic split) = by_split topic (split_of split)
words_task (words.Unknown word) = Misused (wrong_command (string_bytes word))
words_task words.Nothing = Misused (help_text topic.Program)
words_task words.Miscounted = Misused (wrong_count topic.Program)

abbrev pub check_result_of : CheckResultValue → CheckResult
check_result_of c = record { report = report_of c.report; unopened = map unopened_file_of c.unopened.items }

-- an answer where nothing has to be read, and otherwise the rule by which the lines of sources are filtered, the question to
-- all lines of sources, or the files that are to be checked
abbrev pub IsWork : Task → Work → Type 0
IsWork task (work.Answer a) = (¬ NeedsInput task) × ((input : Input) → IsOutcome task input (outcome_of a))
IsWork task (work.Filter rule names) =
    NeedsInput task × IsStream task × (names_read_by task ≡ source_names (map string_bytes names.now)) × ((input : Input) (o : Outcome) → Filters rule input o → IsOutcome task input o)
IsWork task (work.Whole question names) =
    NeedsInput task × (¬ IsStream task) × (names_read_by task ≡ source_names (map string_bytes names.now)) × ((input : Input) (o : Outcome) → IsOutcomeOfInput question input o → IsOutcome task input o)
IsWork task (work.Check options names) = task ≡ Check options (map string_bytes names.now)

-- this is the outcome of the answer, if there is one
abbrev pub IsOutcomeOf : Result Answer RunFailure → Outcome → Type 0
IsOutcomeOf (Ok a) o = o ≡ outcome_of a
IsOutcomeOf (Err why) o = ⊥

-- this is why there is no answer
abbrev pub IsFailureOf : Result Answer RunFailure → RunFailure → Type 0
IsFailureOf (Ok a) why = ⊥
IsFailureOf (Err failure) why = why ≡ failure

-- how a run may end that writes the answer, or why there is none
abbrev pub AnswerEnds : {W E : Type 0} → Result Answer RunFailure → (W → Option (List ℕ)) → (E → Option (List ℕ)) → W → W → E → E → ℕ → Type 0
AnswerEnds answer contents error_contents out out' err err' status = EndsBy (IsOutcomeOf answer) (IsFailureOf answer) (λ o why. ⊥) contents error_contents out out' err err' status
