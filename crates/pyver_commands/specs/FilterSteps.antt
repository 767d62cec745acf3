-- What the loop over the sources has done, as the clauses of its steps say it.
use Rattle.std.specs.Prelude.{◌≡◌, ◌⊎◌, ◌≤◌, ℕ, ◌+◌, ◌-◌, ◌==◌, List, [], ◌∷◌, ◌++◌, Option, None, Some, false, length, take}
use Rattle.std.specs.Io.KnownBytes.{Appends, Consumes, IsAtEnd}
use Rattle.std.specs.List.{All, AllZip, concat}
use Rattle.pyver_commands.specs.Filters.{Filters, printed_lines}
use Rattle.cli_io.specs.Newlines.{input_lines}
use Rattle.pyver_commands.specs.Sources.InputLines.{Origin, Source, filled_lines, filled_lines_from, source_lines}
use Rattle.pyver_commands.specs.Sources.InvalidLines.{last_message, lines_status, message_limit}
use Rattle.pyver_commands.specs.AnswerViews.{KeepsNewest}
use Rattle.cli_io.specs.Runs.{EndsComplete, Outcome}
use Rattle.pyver_commands.specs.Sources.ReadLines.{IsRead, LineReading, ReadLine, faults}
use Rattle.pyver_commands.specs.Sources.SourceViews.{origin_line}
use Rattle.cli_io.specs.Streams.{WroteBeginning}
use Rattle.pyver_commands.specs.Sources.RunFailures.{IsRunFailureOf, FailsWithin}
use Rattle.pyver_commands.specs.Sources.{IsOutcomeOfSources, KnownFile, MayFailToOpen, ReadsInput, ReadsLines, ReadsSource, FailsReading, UnopenedSource, is_input, last_name, unopened_message, unopened_status}
use Rattle.pyver_commands.specs.Sources.VersionLines.{version_lines}
use Rattle.pyver_commands.specs.declared.filter.FilterRule.{FilterRule}
use Rattle.pyver_commands.specs.declared.filter.FilterState.{FilterState}
use Rattle.pyver_commands.specs.declared.filter.Selection.TheVariants as wanted
use Rattle.pyver_commands.specs.declared.newest_lines.KeptLine.{KeptLine}
use Rattle.pyver_commands.specs.declared.sources.open_failure.OpenFailure.{OpenFailure}
use Rattle.pyver_commands.specs.declared.sources.origin.Origin.{Origin as OriginView}
use Rattle.pyver_commands.specs.declared.sources.stream.RunFailure.{RunFailure}
use Rattle.pyver_commands.specs.declared.sources.stream.RunFailure.TheVariants as run_failure

abbrev pub HasNoNewline : List ℕ → Type 0
HasNoNewline line = All (λ b. (b == 10) ≡ false) line

-- of the text these lines have ended, and this one has begun
pub record SplitsLines (text : List ℕ) (ended : List (List ℕ)) (line : List ℕ) : Type 0 where
  pub all : (rest : List ℕ) → input_lines (text ++ rest) ≡ ended ++ input_lines (line ++ rest)
  pub one : HasNoNewline line

-- the newest of these lines was kept
abbrev pub Keeps : FilterRule → List ReadLine → Option KeptLine → Type 0
Keeps rule found kept = KeepsNewest rule.takes rule.list (version_lines found) kept

-- the newest of earlier lines was kept, and then that of them and of these lines
abbrev pub KeepsMore : FilterRule → List ReadLine → Option KeptLine → Option KeptLine → Type 0
KeepsMore rule found a b = rule.wanted ≡ wanted.Newest → (earlier : List ReadLine) → Keeps rule earlier a → Keeps rule (earlier ++ found) b

-- from one state to another by these lines of a source
pub record Steps (rule : FilterRule) (origin : Origin) (ended : List (List ℕ)) (a b : FilterState) : Type 0 where
  pub found : List ReadLine
  pub are : AllZip (IsRead rule.lines) (filled_lines_from origin (a.line_count + 1) ended) found
  pub read_count : b.read_count ≡ a.read_count
  pub line_count : b.line_count ≡ a.line_count + length ended
  pub fault_count : b.fault_count ≡ a.fault_count + length (faults found)
  pub few_faults : b.fault_count ≤ a.fault_count + length ended
  pub newest : KeepsMore rule found a.newest b.newest
  pub output : b.output.items ≡ a.output.items ++ printed_lines rule found
  pub errors : b.errors.items ≡ a.errors.items ++ concat (take (message_limit rule.lines.invalid - a.fault_count) (faults found))

-- by one line, that is read so
pub record StepsBy (rule : FilterRule) (x : ReadLine) (a b : FilterState) : Type 0 where
  pub read_count : b.read_count ≡ a.read_count
  pub line_count : b.line_count ≡ a.line_count
  pub fault_count : b.fault_count ≡ a.fault_count + length (faults (x ∷ []))
  pub few_faults : b.fault_count ≤ a.fault_count + 1
  pub newest : KeepsMore rule (x ∷ []) a.newest b.newest
  pub output : b.output.items ≡ a.output.items ++ printed_lines rule (x ∷ [])
  pub errors : b.errors.items ≡ a.errors.items ++ concat (take (message_limit rule.lines.invalid - a.fault_count) (faults (x ∷ [])))

-- by the line of this text, where the source has come to
abbrev pub StepsAt : FilterRule → OriginView → List ℕ → LineReading → FilterState → FilterState → Type 0
StepsAt rule origin text reading a b = StepsBy rule (record { line = origin_line origin a.line_count text; reading = reading }) a b

-- nothing was read
abbrev pub IsNewState : FilterState → Type 0
IsNewState s = (s.read_count ≡ 0) × (s.fault_count ≡ 0) × (s.newest ≡ None) × (s.output.items ≡ []) × (s.errors.items ≡ [])

-- by the end of the messages, where the last is of a file that was not opened
pub record FinishesBy (rule : FilterRule) (unopened : Option UnopenedSource) (a b : FilterState) (status : ℕ) : Type 0 where
  pub output : b.output.items ≡ a.output.items
  pub errors : b.errors.items ≡ a.errors.items ++ (last_message rule.lines.invalid a.fault_count ++ unopened_message unopened)
  pub ended : status ≡ unopened_status unopened (lines_status rule.lines.invalid a.fault_count)
  pub low : status ≤ 2

module _ {W E : Type 0} (contents : W → Option (List ℕ)) (error_contents : E → Option (List ℕ)) where
  -- all that these lines ask for was written, after earlier lines
  pub record Wrote (rule : FilterRule) (source : Source) (earlier : FilterState) (b : FilterState) (out out' : W) (err err' : E) : Type 0 where
    pub found : List ReadLine
    pub are : AllZip (IsRead rule.lines) (source_lines source) found
    pub fault_count : b.fault_count ≡ earlier.fault_count + length (faults found)
    pub newest : KeepsMore rule found earlier.newest b.newest
    pub output : Appends (contents out) (contents out') (printed_lines rule found)
    pub errors : Appends (error_contents err) (error_contents err') (concat (take (message_limit rule.lines.invalid - earlier.fault_count) (faults found)))
    pub no_output : b.output.items ≡ []
    pub no_errors : b.errors.items ≡ []

  -- a beginning of what these lines ask for was written, after earlier lines
  pub record WroteSome (rule : FilterRule) (source : Source) (earlier : FilterState) (out out' : W) (err err' : E) : Type 0 where
    pub found : List ReadLine
    pub are : AllZip (IsRead rule.lines) (source_lines source) found
    pub output : WroteBeginning (contents out) (contents out') (printed_lines rule found)
    pub errors : WroteBeginning (error_contents err) (error_contents err') (concat (take (message_limit rule.lines.invalid - earlier.fault_count) (faults found)))

  -- all that the lines of these sources ask for was written
  pub record WroteAll (rule : FilterRule) (sources : List Source) (b : FilterState) (out out' : W) (err err' : E) : Type 0 where
    pub found : List ReadLine
    pub are : AllZip (IsRead rule.lines) (filled_lines sources) found
    pub fault_count : b.fault_count ≡ length (faults found)
    pub newest : rule.wanted ≡ wanted.Newest → Keeps rule found b.newest
    pub output : Appends (contents out) (contents out') (printed_lines rule found)
    pub errors : Appends (error_contents err) (error_contents err') (concat (take (message_limit rule.lines.invalid) (faults found)))
    pub no_output : b.output.items ≡ []
    pub no_errors : b.errors.items ≡ []

module _ {S W E : Type 0} (remaining : S → Option (List ℕ)) (contents : W → Option (List ℕ)) (error_contents : E → Option (List ℕ)) where
  -- the source was read so far, and all that its ended lines ask for was written
  pub record Goes (rule : FilterRule) (origin : Origin) (earlier : FilterState) (b : FilterState) (reader reader' : S) (out out' : W) (err err' : E) (line : List ℕ) : Type 0 where
    pub read : List ℕ
    pub consumed : Consumes (remaining reader) (remaining reader') read
    pub ended : List (List ℕ)
    pub cut : SplitsLines read ended line
    pub line_count : b.line_count ≡ length ended
    pub wrote : Wrote contents error_contents rule (record { origin = origin; lines = ended }) earlier b out out' err err'

  -- the whole source was read, and all that it asks for was written
  pub record SourceFinishes (rule : FilterRule) (origin : Origin) (earlier : FilterState) (b : FilterState) (reader reader' : S) (out out' : W) (err err' : E) : Type 0 where
    pub read : List ℕ
    pub consumed : Consumes (remaining reader) (remaining reader') read
    pub end : IsAtEnd (remaining reader')
    pub wrote : Wrote contents error_contents rule (record { origin = origin; lines = input_lines read }) earlier b out out' err err'

  -- some lines were read, and a beginning of what they ask for was written
  pub record SourceFails (rule : FilterRule) (origin : Origin) (earlier : FilterState) (reader reader' : S) (out out' : W) (err err' : E) : Type 0 where
    pub read : List ℕ
    pub consumed : Consumes (remaining reader) (remaining reader') read
    pub front : List (List ℕ)
    pub rest : List (List ℕ)
    pub split : input_lines read ≡ front ++ rest
    pub whole : rest ≡ [] → IsAtEnd (remaining reader')
    pub wrote : WroteSome contents error_contents rule (record { origin = origin; lines = front }) earlier out out' err err'

module _ {R W E : Type 0} (files : List ℕ → KnownFile) (remaining : R → Option (List ℕ)) (contents : W → Option (List ℕ)) (error_contents : E → Option (List ℕ)) where
  -- the source with this name was read, and all that it asks for was written
  pub record OneReads (rule : FilterRule) (origin : Origin) (earlier : FilterState) (b : FilterState) (reader reader' : R) (out out' : W) (err err' : E) : Type 0 where
    pub source : Source
    pub reads : ReadsSource files remaining origin reader reader' source
    pub wrote : Wrote contents error_contents rule source earlier b out out' err err'

  -- the file with this name was not opened, and nothing was done
  pub record OneIsUnopened (origin : Origin) (failure : OpenFailure) (a b : FilterState) (reader reader' : R) (out out' : W) (err err' : E) : Type 0 where
    pub file : is_input origin.name ≡ false
    pub refuses : MayFailToOpen (files origin.name) failure
    pub state : b ≡ a
    pub reader_kept : reader' ≡ reader
    pub out_kept : out' ≡ out
    pub err_kept : err' ≡ err

  abbrev pub OneFinishes : FilterRule → Origin → FilterState → FilterState → R → R → W → W → E → E → Option OpenFailure → Type 0
  OneFinishes rule origin a b reader reader' out out' err err' None = OneReads rule origin a b reader reader' out out' err err'
  OneFinishes rule origin a b reader reader' out out' err err' (Some failure) = OneIsUnopened origin failure a b reader reader' out out' err err'

  -- an allocation failed before the file with this name was opened, and nothing was done
  pub record OneUnread (origin : Origin) (reader reader' : R) (out out' : W) (err err' : E) (why : RunFailure) : Type 0 where
    pub file : is_input origin.name ≡ false
    pub memory : why ≡ run_failure.OutOfMemory
    pub reader_kept : reader' ≡ reader
    pub out_kept : out' ≡ out
    pub err_kept : err' ≡ err

  -- some lines of the source with this name were read, and a beginning of what they ask for was written
  pub record OneReadsPart (rule : FilterRule) (origin : Origin) (earlier : FilterState) (reader reader' : R) (out out' : W) (err err' : E) (why : RunFailure) : Type 0 where
    pub source : Source
    pub lines : ReadsLines files remaining origin reader reader' source
    pub wrote : WroteSome contents error_contents rule source earlier out out' err err'
    pub stops : IsRunFailureOf (Some origin.name) why

  abbrev pub OneFails : FilterRule → Origin → FilterState → R → R → W → W → E → E → RunFailure → Type 0
  OneFails rule origin earlier reader reader' out out' err err' why = OneUnread origin reader reader' out out' err err' why ⊎ OneReadsPart rule origin earlier reader reader' out out' err err' why

  -- the sources with these names were read, up to one that was not opened if there was one, and all that they ask for was written
  pub record AllFinish (rule : FilterRule) (names : List (List ℕ)) (unopened : Option UnopenedSource) (b : FilterState) (reader reader' : R) (out out' : W) (err err' : E) : Type 0 where
    pub sources : List Source
    pub reads : ReadsInput files remaining names reader reader' (record { sources = sources; unopened = unopened })
    pub wrote : WroteAll contents error_contents rule sources b out out' err err'

  -- some of the lines of the sources with these names were read, and a beginning of what they ask for was written
  pub record AllFail (rule : FilterRule) (names : List (List ℕ)) (reader reader' : R) (out out' : W) (err err' : E) (why : RunFailure) : Type 0 where
    pub sources : List Source
    pub reads : FailsReading files remaining (why ≡ run_failure.OutOfMemory) names reader reader' sources
    pub found : List ReadLine
    pub are : AllZip (IsRead rule.lines) (filled_lines sources) found
    pub output : WroteBeginning (contents out) (contents out') (printed_lines rule found)
    pub errors : WroteBeginning (error_contents err) (error_contents err') (concat (take (message_limit rule.lines.invalid) (faults found)))
    pub stops : IsRunFailureOf (last_name sources) why

  -- all was read, up to a file that was not opened if there was one, and all was written
  abbrev pub FilterFinishes : FilterRule → List (List ℕ) → R → R → W → W → E → E → ℕ → Type 0
  FilterFinishes rule names reader reader' out out' err err' status = EndsComplete contents error_contents (IsOutcomeOfSources files remaining (Filters rule) names reader reader') out out' err err' status

  -- some lines were read, and a beginning of what they ask for was written
  pub record FilterFails (rule : FilterRule) (names : List (List ℕ)) (reader reader' : R) (out out' : W) (err err' : E) (why : RunFailure) : Type 0 where
    pub outcome : Outcome
    pub stops : FailsWithin files remaining (Filters rule) names reader reader' outcome why
    pub output : WroteBeginning (contents out) (contents out') outcome.output
    pub errors : WroteBeginning (error_contents err) (error_contents err') outcome.errors
