-- How runs end, by what was written; the words of a call, and files that are read, one after another.
-- There is at most one outcome of what is asked for.
use Rattle.std.proofs.Common.{Bor, List, None, Option, Some, [], ap, append-nil, append_assoc, arith, drop, false, get_or, if◌then◌else◌, inl, inr, length, length-append, map, refl, subst, suc, sym, take, take_all, true, zero, ℕ, ◌++◌, ◌+◌, ◌-◌, ◌<◌, ◌||◌, ◌∙◌, ◌∷◌, ◌≡◌, ◌≤◌, ◌⊎◌, bytes_eq, codes, cond, Bool}
use Rattle.std.proofs.KnownBytes.{Appends-trans}
use Rattle.std.specs.Io.KnownBytes.{Appends}
use Rattle.std.specs.Prelude.{Bool, Err, IfErr, IfOk, Ok, Result, is_ok}
use Rattle.cli_io.specs.Runs.{AtOnce, InParts, Nothing, Outcome, OutputProgress}
use Rattle.cli_io.specs.Streams.{WroteBeginning}
use Rattle.pyver_commands.specs.AnswerViews.{outcome_of}
use Rattle.pyver_commands.specs.FilterSteps.{FilterFails, FilterFinishes}
use Rattle.pyver_commands.specs.Filters.{Filters, FiltersBy, FiltersLines, filter_outcome, rule_of}
use Rattle.pyver_commands.specs.Sources.RunFailures.{FailsWithoutOutcome, IsWriteFailure, Reports, memory_message, write_message}
use Rattle.pyver_commands.specs.Sources.{FailsReading, FindsOutput, Input, IsOutcomeOfSources, KnownFile, ReadsInput, ReadsWhole, input_name, no_input, output_outcome, source_names, UnopenedSource}
use Rattle.pyver_commands.specs.WholeInputs.{IsOutcomeOfInput, BumpsOnly}
use Rattle.pyver_tool.specs.Checks.{CheckResult, Checks, ChecksGroup, ChecksGroups, FailsInCheck, FailsInGroup, FailsInGroups, summary, together_note, with_report}
use Rattle.pyver_tool.specs.TaskViews.{AnswerEnds, EndsBy, FailsEarly, FailsInStream, FinishesTask, IsFailureOf, IsOutcomeOf, MayFailBy, TaskEnds}
use Rattle.pyver_tool.specs.Tasks.{Check, IsOutcome, IsStream, NeedsInput, Task, names_read_by, Help, NameVersion, help_task, named_task, task_of, bump_operands, by_last, Bump, ChecksOnce, Compare, Filter, Marker, Match, Misused, Newest, OutcomesOnce, Range, Show, Sort, usage}
use Rattle.pyver_tool.specs.declared.check.CheckOptions.{CheckOptions}
use Rattle.pyver_commands.specs.declared.answer.Answer.{Answer}
use Rattle.pyver_commands.specs.declared.filter.FilterRule.{FilterRule}
use Rattle.pyver_commands.specs.declared.sources.stream.RunFailure.{RunFailure}
use Rattle.pyver_commands.specs.declared.whole_input.Question.{Question}
use Rattle.std.specs.Option.{MatchOption, option_copied}
use Rattle.std.specs.Str.{IsCharBoundary, IsUtf8}
use Rattle.std.specs.Str.Pattern.{FindsTextPrefix, StripsPrefix}
use Rattle.std.proofs.lemmas.Str.Pattern.{starts_text}
use Rattle.pyver_tool.specs.SplitWords.{value_behind, Awaits, End, Given, Missing, Named, Split, UnknownWord, Whole, before, by_end, is_option, split_words, word_options, kind_by_name, Row}
use Rattle.std.proofs.Math.Seq.{take-append_seam}
use Rattle.std.proofs.lemmas.Grind.{flat_map-append}
use Rattle.std.proofs.lemmas.List.{drop_all, drop_more, map-append}
use Rattle.std.specs.List.{flat_map, AllZip}
use Rattle.pyver_commands.proofs.SourceReads.{stops_before}
use Rattle.pyver_tool.specs.RequirementFiles.{EndsSearch, FailsInFiles, FailsInNames, FailsInSearch, FailsInSearches, FailsOpening, FilesRead, GainsFile, GainsUnopened, HasNames, HasPath, HasReads, ReadsFilesInTurn, ReadsNames, ReadsNext, ReadsStep, SeeksFirst, SeeksInTurn, SeeksName, StepsOrFailsOpening, below, file_with, has_path, names_in, names_of_files, none_read, read_of, with_unopened, word_file, UnopenedFile}
use Rattle.pyver_commands.specs.Sources.SourceTexts.{FailsInText}
use Rattle.pyver_tool.specs.declared.options.FileKind.{FileKind}
use Rattle.pyver_commands.specs.declared.sources.open_failure.OpenFailure.{OpenFailure}
use Rattle.pyver_tool.specs.declared.requirement_files.RequirementFiles.{RequirementFiles}
use Rattle.pyver_findings.specs.FileLines.{File}
use Rattle.pyver_findings.specs.NamedFiles.{NamedFile, named_files}
use Rattle.pyver_findings.specs.Views.{named_file_of}
use Rattle.pyver_findings.specs.ReportTexts.{summary_text}
use Rattle.pyver_findings.specs.Reports.{Report, joined_report, without_ignored}
use Rattle.pyver_commands.specs.declared.sources.open_failure.OpenFailure.TheVariants as failure
use Rattle.pyver_commands.specs.declared.sources.stream.RunFailure.TheVariants as run_failure
use Rattle.pyver_tool.specs.declared.options.FileKind.TheVariants as file_kind
use Rattle.pyver_tool.specs.declared.help.Topic.TheVariants as topic
use Rattle.std.proofs.lemmas.List.Elements.{Contains-append_left, Contains-append_right}
use Rattle.pep440_rs.proofs.Reading.OneMeaning.{not_both_list, one_list, one_list_refusal}
use Rattle.pep440_rs.specs.Lists.ListErrorTexts.{list_rejection_text}
use Rattle.pep440_rs.specs.Lists.ListGrammar.{PieceRejection}
use Rattle.pep440_rs.specs.Specifiers.{Spec}
use Rattle.pep440_version.proofs.Reading.Agreement.{one_record}
use Rattle.pep440_version.proofs.Rejections.ExactlyOne.{not_both, one_refusal}
use Rattle.pep440_version.specs.ErrorTexts.{rejection_text}
use Rattle.pyver_commands.specs.Bumps.{Bumps, bump_outcome}
use Rattle.pyver_commands.proofs.InputOutput.{one_newest, one_sorted}
use Rattle.pyver_commands.proofs.CommandLaws.{one_printed}
use Rattle.pyver_commands.specs.CommonRanges.{FindsCommon, ListReading, PrintsLists, ReadsMembers, list_reading, members_in, messages_in}
use Rattle.pyver_commands.specs.Comparisons.{Compares, comparison_outcome}
use Rattle.pyver_commands.specs.Sources.ReadLines.{field, Entry, Header, IsEntry, IsRead, LineReading, ReadLine, ReadsBytes, ReadsField, ReadsPart}
use Rattle.pyver_commands.specs.Sources.InputLines.{SourceLine, Source, filled_lines}
use Rattle.pyver_commands.specs.Sources.LineOptions.{bare_line_options, is_header}
use Rattle.pyver_commands.specs.Matches.{Matches, MatchesBy, MatchesWord, MatchesWords, ReadsSpecifiers, SpecifiersReading, DenotesList, ListFails, word_outcome, takes_prereleases}
use Rattle.pyver_commands.specs.NewestOutcomes.{FindsNewest, FindsNewestBy, FindsNewestLine, newest_outcome, newest_rule, taken}
use Rattle.pyver_findings.specs.FindingLaws.{IsUndecided, without_environments}
use Rattle.pyver_findings.proofs.Complete.{ignored_alike, joined_alike, reports_once}
use Rattle.pyver_documents.proofs.Once.{document_reports_once}
use Rattle.pyver_commands.specs.Outcomes.{in_turn}
use Rattle.pyver_commands.specs.Readings.{Reading, Reads, Denotes, Fails}
use Rattle.pyver_commands.specs.Shows.{Shows, ShowsWord, show_outcome}
use Rattle.pyver_commands.specs.Sorts.{SortsParts, sort_outcome}
use Rattle.pyver_commands.specs.Sources.VersionLines.{InputParts, OfFound, OfSources, OfVersions, input_parts}
use Rattle.pyver_commands.specs.declared.allowed.MatchOptions.{MatchOptions}
use Rattle.pyver_commands.specs.declared.bump.BumpPart.{BumpPart}
use Rattle.pyver_commands.specs.declared.comparison.Comparison.{Comparison}
use Rattle.pyver_commands.specs.declared.filter.FilterOptions.{FilterOptions}
use Rattle.pyver_commands.specs.declared.sources.invalid_lines.InvalidLines.{InvalidLines}
use Rattle.pyver_commands.specs.declared.sources.line_options.LineOptions.{LineOptions}
use Rattle.pyver_commands.specs.declared.newest.NewestOptions.{NewestOptions}
use Rattle.pyver_commands.specs.declared.newest.NewestRule.{NewestRule}
use Rattle.pyver_commands.specs.declared.show.ShowFormat.{ShowFormat}
use Rattle.pyver_commands.specs.declared.sort.SortOptions.{SortOptions}

-- a beginning of the message after what was written before
told_more : (a b c : Option (List ℕ)) (xs message : List ℕ) → Appends a b xs → WroteBeginning b c message → WroteBeginning a c (xs ++ message)
told_more a b c xs message wrote k = record {
  written = xs ++ k.written;
  left = k.left;
  wrote = Appends-trans a b c xs k.written wrote k.wrote;
  whole = ap (λ t. xs ++ t) k.whole ∙ sym (append_assoc xs k.written k.left);
}

-- the message of a failed write with this status
pub write_failure : (status : ℕ) → (status ≡ 4) ⊎ (status ≡ 141) → (message : List ℕ) × IsWriteFailure status message
write_failure status (inl four) = (write_message, inl (four, refl))
write_failure status (inr unread) = ([], inr (unread, refl))

-- ---- an answer, or why there is none

finishes_by : (answer : Result Answer RunFailure) (P : Outcome → Type 0) → IfOk answer (λ a. P (outcome_of a)) → (o : Outcome) → IsOutcomeOf answer o → P o
finishes_by (Ok a) P finished o is = subst P (sym is) finished
finishes_by (Err why) P finished o is = absurd is

fails_by : (answer : Result Answer RunFailure) (Q : RunFailure → Type 0) → IfErr answer Q → (why : RunFailure) → IsFailureOf answer why → Q why
fails_by (Ok a) Q stopped why is = absurd is
fails_by (Err failure) Q stopped why is = subst Q (sym is) stopped

module _ {W E : Type 0} (contents : W → Option (List ℕ)) (error_contents : E → Option (List ℕ)) (out out' : W) (err err' : E) (status : ℕ) where
  pub ends_in_output : (a : Answer) (message : List ℕ) → IsWriteFailure status message → WroteBeginning (contents out) (contents out') a.output.items → WroteBeginning (error_contents err) (error_contents err') message
      → AnswerEnds (Ok a) contents error_contents out out' err err' status
  ends_in_output a message why output errors = inr (record { begun = AtOnce (outcome_of a); message = message; why = (refl, why); begins = inl (output, errors) })

  pub ends_in_errors : (a : Answer) → (status ≡ 4) ⊎ (status ≡ 141) → Appends (contents out) (contents out') a.output.items → WroteBeginning (error_contents err) (error_contents err') a.errors.items
      → AnswerEnds (Ok a) contents error_contents out out' err err' status
  ends_in_errors a which output errors =
      let why = write_failure status which in
      inr (record { begun = AtOnce (outcome_of a); message = why.0; why = (refl, why.1); begins = inr (output, errors) })

  pub ends_unanswered : (why : RunFailure) (message : List ℕ) → Reports why status message → out' ≡ out → WroteBeginning (error_contents err) (error_contents err') message → AnswerEnds (Err why) contents error_contents out out' err err' status
  ends_unanswered why message reports silent errors = inr (record { begun = Nothing; message = message; why = (why, refl, reports); begins = (silent, errors) })

  module _ (answer : Result Answer RunFailure) (P : Outcome → Type 0) (Q : RunFailure → Type 0) (L : Outcome → RunFailure → Type 0) (finished : IfOk answer (λ a. P (outcome_of a))) (stopped : IfErr answer Q) where
    stops_by : (begun : OutputProgress) (message : List ℕ) → MayFailBy (IsOutcomeOf answer) (IsFailureOf answer) (λ o why. ⊥) begun status message → MayFailBy P Q L begun status message
    stops_by Nothing message (why, is, reports) = (why, fails_by answer Q stopped why is, reports)
    stops_by (AtOnce o) message (is, why) = (finishes_by answer P finished o is, why)
    stops_by (InParts o) message (why, is, reports) = absurd is

    ends_by : AnswerEnds answer contents error_contents out out' err err' status → EndsBy P Q L contents error_contents out out' err err' status
    ends_by (inl k) = inl (record { outcome = k.outcome; is = finishes_by answer P finished k.outcome k.is; output = k.output; errors = k.errors; ended = k.ended; low = k.low })
    ends_by (inr k) = inr (record { begun = k.begun; message = k.message; why = stops_by k.begun k.message k.why; begins = k.begins })

-- ---- tasks

if_ok : (answer : Result Answer RunFailure) (P Q : Outcome → Type 0) → ((o : Outcome) → P o → Q o) → IfOk answer (λ a. P (outcome_of a)) → IfOk answer (λ a. Q (outcome_of a))
if_ok (Ok a) P Q more is = more (outcome_of a) is
if_ok (Err why) P Q more is = tt

if_err : (answer : Result Answer RunFailure) (P Q : RunFailure → Type 0) → ((why : RunFailure) → P why → Q why) → IfErr answer P → IfErr answer Q
if_err (Ok a) P Q more is = tt
if_err (Err why) P Q more is = more why is

module _ {R W E : Type 0} (files : List ℕ → KnownFile) (paths : List ℕ → Option (List ℕ)) (outputs : List ℕ → Option Bool) (remaining : R → Option (List ℕ)) (task : Task) (reader reader' : R) (contents : W → Option (List ℕ)) (error_contents : E → Option (List ℕ)) (out out' : W) (err err' : E) (status : ℕ) where
  -- an answer that needs no input
  pub ends_by_answer : (a : Answer) → ¬ NeedsInput task → ((input : Input) → IsOutcome task input (outcome_of a)) → AnswerEnds (Ok a) contents error_contents out out' err err' status
      → TaskEnds files paths outputs remaining task reader reader' contents error_contents out out' err err' status
  ends_by_answer a needless is =
      ends_by contents error_contents out out' err err' status (Ok a) (FinishesTask files paths outputs remaining task reader reader') (FailsEarly files paths outputs remaining task reader reader') (FailsInStream files paths outputs remaining task reader reader')
      (inl (no_input, (λ n. absurd (needless n)), is no_input)) tt

  -- the answer of files that were checked
  pub ends_by_check : (answer : Result Answer RunFailure) (options : CheckOptions) (names : List (List ℕ)) → task ≡ Check options names → IfOk answer (λ a. Checks files paths remaining options names reader reader' (outcome_of a))
      → IfErr answer (FailsInCheck files paths remaining options names reader reader') → AnswerEnds answer contents error_contents out out' err err' status → TaskEnds files paths outputs remaining task reader reader' contents error_contents out out' err err' status
  ends_by_check answer options names so finished stopped =
      ends_by contents error_contents out out' err err' status answer (FinishesTask files paths outputs remaining task reader reader') (FailsEarly files paths outputs remaining task reader reader') (FailsInStream files paths outputs remaining task reader reader')
      (if_ok answer (Checks files paths remaining options names reader reader') (FinishesTask files paths outputs remaining task reader reader') (λ o k. inr (inr (options, names, so, k))) finished)
      (if_err answer (FailsInCheck files paths remaining options names reader reader') (FailsEarly files paths outputs remaining task reader reader') (λ why k. inr (inr (options, names, so, k))) stopped)

  -- an allocation failed before anything was read or written
  pub ends_at_once : reader' ≡ reader → out' ≡ out → status ≡ 3 → WroteBeginning (error_contents err) (error_contents err') memory_message → TaskEnds files paths outputs remaining task reader reader' contents error_contents out out' err err' status
  ends_at_once same silent three errors = inr (record { begun = Nothing; message = memory_message; why = (run_failure.OutOfMemory, inl (refl, same), (three, refl)); begins = (silent, errors) })

  module _ (names : List (List ℕ)) (needs : NeedsInput task) (same : names_read_by task ≡ names) where
    -- the answer to a question of all sources
    pub ends_by_whole : ¬ IsStream task → (answer : Result Answer RunFailure) (asked : Question) → ((input : Input) (o : Outcome) → IsOutcomeOfInput asked input o → IsOutcome task input o) → IfOk answer (λ a. IsOutcomeOfSources files remaining (IsOutcomeOfInput asked) names reader reader' (outcome_of a))
        → IfErr answer (FailsWithoutOutcome files remaining names reader reader') → AnswerEnds answer contents error_contents out out' err err' status → TaskEnds files paths outputs remaining task reader reader' contents error_contents out out' err err' status
    ends_by_whole whole answer asked is finished stopped =
        ends_by contents error_contents out out' err err' status answer (FinishesTask files paths outputs remaining task reader reader') (FailsEarly files paths outputs remaining task reader reader') (FailsInStream files paths outputs remaining task reader reader')
        (if_ok answer (IsOutcomeOfSources files remaining (IsOutcomeOfInput asked) names reader reader') (FinishesTask files paths outputs remaining task reader reader')
        (λ o k. inl (k.input, (λ _. ((λ stream. absurd (whole stream)), subst (λ n. ReadsInput files remaining n reader reader' k.input) (sym same) k.reads)), is k.input o k.is)) finished)
        (if_err answer (FailsWithoutOutcome files remaining names reader reader') (FailsEarly files paths outputs remaining task reader reader')
        (λ why k. inr (inl (needs, subst (λ n. FailsWithoutOutcome files remaining n reader reader' why) (sym same) k))) stopped)

    -- the answer that a source is also the output
    pub ends_by_output : IsStream task → (name : List ℕ) → FindsOutput outputs names (Some name) → (answer : Result Answer RunFailure) → IfOk answer (λ a. outcome_of a ≡ output_outcome name) → IfErr answer (λ why. why ≡ run_failure.OutOfMemory) → reader' ≡ reader
        → AnswerEnds answer contents error_contents out out' err err' status → TaskEnds files paths outputs remaining task reader reader' contents error_contents out out' err err' status
    ends_by_output stream name found answer finished stopped still =
        ends_by contents error_contents out out' err err' status answer (FinishesTask files paths outputs remaining task reader reader') (FailsEarly files paths outputs remaining task reader reader') (FailsInStream files paths outputs remaining task reader reader')
        (if_ok answer (λ o. o ≡ output_outcome name) (FinishesTask files paths outputs remaining task reader reader')
        (λ o k. inr (inl (name, stream, needs, (λ _. subst (λ n. FindsOutput outputs n (Some name)) (sym same) found), k, still))) finished)
        (if_err answer (λ why. why ≡ run_failure.OutOfMemory) (FailsEarly files paths outputs remaining task reader reader') (λ why k. inl (k, still)) stopped)

    module _ (rule : FilterRule) (is : (input : Input) (o : Outcome) → Filters rule input o → IsOutcome task input o) where
      pub ends_by_filter : FindsOutput outputs names None → FilterFinishes files remaining contents error_contents rule names reader reader' out out' err err' status → TaskEnds files paths outputs remaining task reader reader' contents error_contents out out' err err' status
      ends_by_filter apart k = inl (record {
        outcome = k.outcome;
        is = inl (k.is.input, (λ _. ((λ _. subst (λ n. FindsOutput outputs n None) (sym same) apart), subst (λ n. ReadsInput files remaining n reader reader' k.is.input) (sym same) k.is.reads)), is k.is.input k.outcome k.is.is);
        output = k.output;
        errors = k.errors;
        ended = k.ended;
        low = k.low;
      })

      -- the last message follows what was written before
      pub ends_by_filter_stop : (why : RunFailure) (told : E) (message : List ℕ) → IsStream task → FindsOutput outputs names None → FilterFails files remaining contents error_contents rule names reader reader' out out' err told why → Reports why status message
          → WroteBeginning (error_contents told) (error_contents err') message → TaskEnds files paths outputs remaining task reader reader' contents error_contents out out' err err' status
      ends_by_filter_stop why told message stream apart k reports wrote =
          let s = k.stops in
          inr (record {
            begun = InParts k.outcome;
            message = message;
            why = (
              why,
              (
                stream,
                needs,
                (λ _. subst (λ n. FindsOutput outputs n None) (sym same) apart),
                record {
                  input = s.input;
                  reads = subst (λ n. ReadsInput files remaining n reader reader' s.input ⊎ (FailsReading files remaining (why ≡ run_failure.OutOfMemory) n reader reader' s.input.sources × (s.input.unopened ≡ None))) (sym same) s.reads;
                  is = is s.input k.outcome s.is;
                  stops = s.stops;
                },
              ),
              reports,
            );
            begins = (
              k.output,
              record { told = k.errors.written; untold = k.errors.left; split = k.errors.whole; wrote = told_more _ _ _ k.errors.written message k.errors.wrote wrote },
            );
          })

-- ---- what stands after the beginning of a word

-- `strip_prefix` at a string
pub behind_is : (start word : List ℕ) (r : Option (Bor (List ℕ))) → MatchOption r (FindsTextPrefix start word None) (λ x. StripsPrefix (FindsTextPrefix start) word x.now) → option_copied r ≡ value_behind start word
behind_is start word None h = rw (← starts_text false start word h) refl
behind_is start word (Some x) (k, f, is, len) =
    let at : IsCharBoundary word k = subst (IsCharBoundary word) (sym f.0) f.2 in
    let begins = starts_text true start word (k, f, at) in
    rw (← begins) (ap Some (is ∙ ap (λ (m : ℕ). drop m word) f.0))

-- ---- the names of the files

pub names_gain : (kind : FileKind) (first : List NamedFile) (a b : RequirementFiles) (file : File) (path : List ℕ) → HasNames first a → GainsFile kind a b file path → HasNames first b
names_gain file_kind.Requirements first a b file path h k =
    k.names ∙ ap (λ n. n ++ named_files file) h ∙ append_assoc first (flat_map named_files (read_of a).requirements) (named_files file)
    ∙ ap (λ n. first ++ n) (ap (λ n. flat_map named_files (read_of a).requirements ++ n) (sym (append-nil (named_files file))) ∙ sym (flat_map-append named_files (read_of a).requirements (file ∷ [])) ∙ ap (λ (r : FilesRead). flat_map named_files r.requirements) (sym k.read))
names_gain (file_kind.Document kind) first a b file path h k =
    k.names ∙ append-nil (names_of_files a) ∙ h ∙ ap (λ (r : FilesRead). first ++ flat_map named_files r.requirements) (sym k.read)

module _ {R : Type 0} (kind : FileKind) (files : List ℕ → KnownFile) (paths : List ℕ → Option (List ℕ)) (remaining : R → Option (List ℕ)) where
  -- it was read
  pub step_opened : (name path text : List ℕ) (a b : RequirementFiles) (reader reader' : R) → IsUtf8 name → HasPath kind files paths remaining name path → has_path (read_of a) path ≡ false → ReadsWhole files remaining name reader reader' text
      → GainsFile (kind_by_name kind name) a b (file_with name text) path → a.read_count < b.read_count → HasReads b → StepsOrFailsOpening kind files paths remaining name a b reader reader' None
  step_opened name path text a b reader reader' utf8 is new reads gains more has = record {
    next = (utf8, path, is, inr (new, (text, reads, gains.read)));
    names = λ first h. names_gain (kind_by_name kind name) first a b (file_with name text) path h gains;
    more = names_in (kind_by_name kind name) (file_with name text);
    behind = gains.names;
    advances = inl more;
    reads = has;
  }

  -- the source was read unless it had been before, or it was not opened
  pub step_read : (named : NamedFile) (a b : RequirementFiles) (reader reader' : R) → StepsOrFailsOpening kind files paths remaining named.name a b reader reader' None → ReadsStep kind files paths remaining named a b reader reader'
  step_read named a b reader reader' step = record { next = inl step.next; names = step.names; more = step.more; behind = step.behind; advances = step.advances; reads = step.reads }

  pub step_refused : (named : NamedFile) (why : OpenFailure) (a b c : RequirementFiles) (reader reader' : R) → HasReads a → StepsOrFailsOpening kind files paths remaining named.name a b reader reader' (Some why) → GainsUnopened b c named why
      → ReadsStep kind files paths remaining named a c reader reader'
  step_refused named why a b c reader reader' reads (refuses, same, kept) gains =
      let names : c.names ≡ a.names = gains.names ∙ ap (λ (x : RequirementFiles). x.names) same in
      let count : c.read_count ≡ a.read_count = gains.count ∙ ap (λ (x : RequirementFiles). x.read_count) same in
      let are : names_of_files c ≡ names_of_files a = ap (λ n. map named_file_of n.items) names in
      let read : read_of c ≡ with_unopened (read_of a) named why = gains.read ∙ ap (λ (x : RequirementFiles). with_unopened (read_of x) named why) same in
      record {
        next = inr (why, refuses, read, kept);
        names = λ first h. are ∙ h ∙ ap (λ (r : FilesRead). first ++ flat_map named_files r.requirements) (sym read);
        more = [];
        behind = are ∙ sym (append-nil (names_of_files a));
        advances = inr (count, ap (λ n. length n.items) names);
        reads = subst (λ n. n ≤ 562949953421312) (sym count) reads;
      }

  -- ---- one source after another

  pub each_last : (done : List NamedFile) (named : NamedFile) (a c b : FilesRead) (reader middle reader' : R) → ReadsFilesInTurn kind files paths remaining done a c reader middle → ReadsNext kind files paths remaining named c b middle reader'
      → ReadsFilesInTurn kind files paths remaining (done ++ named ∷ []) a b reader reader'
  each_last [] named a c b reader middle reader' (same, kept) next =
      (b, reader', subst (λ r. ReadsNext kind files paths remaining named a b r reader') kept (subst (λ (x : FilesRead). ReadsNext kind files paths remaining named x b middle reader') same next), (refl, refl))
  each_last (n ∷ done) named a c b reader middle reader' (x, r, step, rest) next = (x, r, step, each_last done named x c b r middle reader' rest next)

  module _ (first : List NamedFile) (a : RequirementFiles) (reader middle reader' : R) (front rest : List NamedFile) (named : NamedFile) (split : names_of_files a ≡ front ++ named ∷ rest)
      (k : ReadsFilesInTurn kind files paths remaining front none_read (read_of a) reader middle) where
    pub each_more : (b : RequirementFiles) → ReadsStep kind files paths remaining named a b middle reader' → ReadsFilesInTurn kind files paths remaining (front ++ named ∷ []) none_read (read_of b) reader reader'
    each_more b step = each_last front named none_read (read_of a) (read_of b) reader middle reader' k step.next

    pub ends_stopped : HasNames first a → (why : RunFailure) → FailsInText files remaining named.name middle reader' why → FailsInNames kind files paths remaining first reader reader' why
    ends_stopped h why part = record {
      done = front;
      named = named;
      left = rest;
      read = read_of a;
      split = sym h ∙ split;
      middle = middle;
      each = k;
      part = part;
    }

  -- all names were read
  pub ends_whole : (first : List NamedFile) (a : RequirementFiles) (reader reader' : R) → HasNames first a → ReadsFilesInTurn kind files paths remaining (names_of_files a) none_read (read_of a) reader reader'
      → ReadsNames kind files paths remaining first reader reader' (read_of a)
  ends_whole first a reader reader' h k = subst (λ n. ReadsFilesInTurn kind files paths remaining n none_read (read_of a) reader reader') h k

  -- an allocation failed before anything was read
  pub stops_at_once : (first : List NamedFile) (named : NamedFile) (left : List NamedFile) (reader : R) → first ≡ named ∷ left → FailsInNames kind files paths remaining first reader reader run_failure.OutOfMemory
  stops_at_once first named left reader is = record {
    done = [];
    named = named;
    left = left;
    read = none_read;
    split = append-nil first ∙ is;
    middle = reader;
    each = (refl, refl);
    part = stops_before files remaining named.name reader;
  }

-- the names up to the next one, of which more follow
pub taken_names : {A : Type 0} (all more front rest : List A) (name : A) (i : ℕ) → all ≡ front ++ name ∷ rest → length front ≡ i → take (i + 1) (all ++ more) ≡ front ++ name ∷ []
taken_names all more front rest name i is long =
    let size : length (front ++ name ∷ []) ≡ i + 1 = search (length-append, long, arith) in
    ap (λ l. take (i + 1) (l ++ more)) is ∙ ap (λ l. take (i + 1) (l ++ more)) (sym (append_assoc front (name ∷ []) rest)) ∙ ap (take (i + 1)) (append_assoc (front ++ name ∷ []) rest more)
    ∙ subst (λ n. take n ((front ++ name ∷ []) ++ (rest ++ more)) ≡ front ++ name ∷ []) size (take-append_seam (front ++ name ∷ []) (rest ++ more))

-- all words but the first
later_words : {X : Type 0} (x : X) (words : List X) → words ≡ take (length (x ∷ words) - 1) words
later_words x words = sym (take_all (length (x ∷ words) - 1) words (omega arith))

-- the first of the words is a group, and then come the others
pub first_group : {X : Type 0} (f : X → List ℕ) (words : List X) → 1 ≤ length words
    → map (λ word. word ∷ []) (map f words) ≡ source_names (map f (take 1 words)) ∷ map (λ word. word ∷ []) (map f (take (length words - 1) (drop 1 words)))
first_group f [] some = absurd (omega (arith, some))
first_group f (x ∷ []) some = ap (λ l. (f x ∷ []) ∷ map (λ word. word ∷ []) (map f l)) (later_words x [])
first_group f (x ∷ (y ∷ words)) some = ap (λ l. (f x ∷ []) ∷ map (λ word. word ∷ []) (map f l)) (later_words x (y ∷ words))

-- no word is left
pub no_group : {X : Type 0} (f : X → List ℕ) (words : List X) → length words < 1 → [] ≡ map (λ word. word ∷ []) (map f words)
no_group f [] none = refl
no_group f (x ∷ words) none = absurd (omega (arith, none))

module _ {R : Type 0} (options : CheckOptions) (files : List ℕ → KnownFile) (paths : List ℕ → Option (List ℕ)) (remaining : R → Option (List ℕ)) where
  -- what comes of the groups that are left comes of all
  abbrev pub Continues : List (List (List ℕ)) → List (List (List ℕ)) → CheckResult → CheckResult → R → R → Type 0
  Continues all left a c reader middle =
      ((b : CheckResult) (reader' : R) → ChecksGroups options files paths remaining left c b middle reader' → ChecksGroups options files paths remaining all a b reader reader')
      × ((why : RunFailure) (reader' : R) → FailsInGroups options files paths remaining left c middle reader' why → FailsInGroups options files paths remaining all a reader reader' why)

  module _ (all left others : List (List (List ℕ))) (first : List (List ℕ)) (a c : CheckResult) (reader middle : R) (is : left ≡ first ∷ others) (h : Continues all left a c reader middle) where
    pub continues_more : (d : CheckResult) (later : R) → ChecksGroup options files paths remaining first c d middle later → Continues all others a d reader later
    continues_more d later step = (
      λ b reader' k. h.0 b reader' (subst (λ l. ChecksGroups options files paths remaining l c b middle reader') (sym is) (d, later, step, k)),
      λ why reader' k. h.1 why reader' (subst (λ l. FailsInGroups options files paths remaining l c middle reader' why) (sym is) (inr (d, later, step, k))),
    )

    pub continues_stop : (why : RunFailure) (reader' : R) → FailsInGroup options files paths remaining first middle reader' why → FailsInGroups options files paths remaining all a reader reader' why
    continues_stop why reader' stops = h.1 why reader' (subst (λ l. FailsInGroups options files paths remaining l c middle reader' why) (sym is) (inl stops))

-- ---- how `check` begins, and its last message

-- there is a first source
some_source : (names : List (List ℕ)) → (name : List ℕ) × (left : List (List ℕ)) × (source_names names ≡ name ∷ left)
some_source [] = (input_name, [], refl)
some_source (name ∷ names) = (name, names, refl)

module _ {R : Type 0} (kind : FileKind) (files : List ℕ → KnownFile) (paths : List ℕ → Option (List ℕ)) (remaining : R → Option (List ℕ)) where
  -- an allocation failed before anything was read
  pub group_stops_at_once : (seeks : Bool) (words : List (List ℕ)) (reader : R) → FailsInFiles kind files paths remaining seeks (source_names words) reader reader run_failure.OutOfMemory
  group_stops_at_once seeks words reader = let first = some_source words in
      inl (subst (λ w. FailsInNames kind files paths remaining (map word_file w) reader reader run_failure.OutOfMemory) (sym first.2)
      (stops_at_once kind files paths remaining (map word_file (first.0 ∷ first.1)) (word_file first.0) (map word_file first.1) reader refl))

-- a last write, of which this comes
pub written_last : {T E : Type 0} (r : Result T E) (new old more all : List ℕ) → new ≡ (if is_ok r then old ++ more else old) → old ++ more ≡ all → IfOk r (λ _. new ≡ all)
written_last (Ok x) new old more all e k = e ∙ k
written_last (Err x) new old more all e k = tt

-- the note and the counts were written
pub summary_is : (options : CheckOptions) (words : List (List ℕ)) (r : Report) (old now note counts : List ℕ) → options.quiet ≡ false → now ≡ old ++ note → note ≡ together_note options words r.findings → counts ≡ summary_text r
    → now ++ counts ≡ old ++ summary options words r
summary_is options words r old now note counts loud noted is counted =
    let both : note ++ counts ≡ together_note options words r.findings ++ summary_text r = ap (λ n. n ++ counts) is ∙ ap (λ s. together_note options words r.findings ++ s) counted in
    ap (λ b. b ++ counts) noted ∙ append_assoc old note counts
    ∙ ap (λ t. old ++ t) (subst (λ q. note ++ counts ≡ (if q then [] else together_note options words r.findings ++ summary_text r)) (sym loud) both)

-- ---- the locks of projects

below_step : (n : ℕ) → 0 < n → below n ≡ (n - 1) ∷ below (n - 1)
below_step zero some = absurd (omega (arith, some))
below_step (suc n) some = let e : suc n - 1 ≡ n = omega arith in rw e refl

-- one place of a path more
pub names_more : (f : ℕ → List (List ℕ)) (old new all : List (List ℕ)) (end : ℕ) → 0 < end → old ++ flat_map f (below end) ≡ all → new ≡ old ++ f (end - 1) → new ++ flat_map f (below (end - 1)) ≡ all
names_more f old new all end some h is =
    ap (λ l. l ++ flat_map f (below (end - 1))) is ∙ append_assoc old (f (end - 1)) (flat_map f (below (end - 1))) ∙ ap (λ l. old ++ flat_map f l) (sym (below_step end some)) ∙ h

-- no place is left
pub names_all : (f : ℕ → List (List ℕ)) (old all : List (List ℕ)) (end : ℕ) → end ≤ 0 → old ++ flat_map f (below end) ≡ all → old ≡ all
names_all f old all zero none h = sym (append-nil old) ∙ h
names_all f old all (suc end) none h = absurd (omega (arith, none))

-- the items that are left, of which this is the first, or none
pub items_from : {X Y : Type 0} (f : X → Y) (xs : List X) (i : ℕ) (x : X) → i < length xs → x ≡ get_or xs i x → map f (drop i xs) ≡ f x ∷ map f (drop (i + 1) xs)
items_from f xs i x inside is = ap (map f) (drop_more xs i x inside) ∙ ap (λ y. f y ∷ map f (drop (i + 1) xs)) (sym is)

pub no_items : {X Y : Type 0} (f : X → Y) (xs : List X) (i : ℕ) → length xs ≤ i → [] ≡ map f (drop i xs)
no_items f xs i end = sym (ap (map f) (drop_all i xs end))

module _ {R : Type 0} (kind : FileKind) (files : List ℕ → KnownFile) (paths : List ℕ → Option (List ℕ)) (remaining : R → Option (List ℕ)) where
  -- what comes of the names that are left comes of all
  abbrev pub SeekContinues : List (List ℕ) → List (List ℕ) → FilesRead → R → Type 0
  SeekContinues all left a reader =
      ((b : FilesRead) (reader' : R) → SeeksFirst kind files paths remaining left a b reader reader' → SeeksFirst kind files paths remaining all a b reader reader')
      × ((why : RunFailure) (reader' : R) → FailsInSearch kind files paths remaining left reader reader' why → FailsInSearch kind files paths remaining all reader reader' why)

  module _ (all left others : List (List ℕ)) (name : List ℕ) (a : FilesRead) (reader : R) (is : left ≡ name ∷ others) (h : SeekContinues all left a reader) where
    pub seek_more : FailsOpening (files name) name failure.NotFound → SeekContinues all others a reader
    seek_more refuses = (
      λ b reader' k. h.0 b reader' (subst (λ l. SeeksFirst kind files paths remaining l a b reader reader') (sym is) (inr (refuses, k))),
      λ why reader' k. h.1 why reader' (subst (λ l. FailsInSearch kind files paths remaining l reader reader' why) (sym is) (inr (refuses, k))),
    )

    pub seek_ends : (b : FilesRead) (reader' : R) → EndsSearch kind files paths remaining name a b reader reader' → SeeksFirst kind files paths remaining all a b reader reader'
    seek_ends b reader' k = h.0 b reader' (subst (λ l. SeeksFirst kind files paths remaining l a b reader reader') (sym is) (inl k))

    pub seek_stops : (why : RunFailure) (reader' : R) → FailsInText files remaining name reader reader' why → FailsInSearch kind files paths remaining all reader reader' why
    seek_stops why reader' k = h.1 why reader' (subst (λ l. FailsInSearch kind files paths remaining l reader reader' why) (sym is) (inl k))

  module _ (files' : List ℕ → KnownFile) (paths' : List ℕ → Option (List ℕ)) (same_files : files' ≡ files) (same_paths : paths' ≡ paths) (self here new : RequirementFiles) (kept : here ≡ self) (reader middle reader' : R) (unread : middle ≡ reader)
      (all left others : List (List ℕ)) (name word : List ℕ) (named : word ≡ name) (is : left ≡ name ∷ others) (h : SeekContinues all left (read_of self) reader) where
    step_here : (ends : Bool) → SeeksName kind files' paths' remaining word here new middle reader' ends → SeeksName kind files paths remaining name self new reader reader' ends
    step_here ends step =
        subst (λ f. SeeksName kind f paths remaining name self new reader reader' ends) same_files
        (subst (λ p. SeeksName kind files' p remaining name self new reader reader' ends) same_paths
        (subst (λ n. SeeksName kind files' paths' remaining n self new reader reader' ends) named
        (subst (λ a. SeeksName kind files' paths' remaining word a new reader reader' ends) kept
        (subst (λ r. SeeksName kind files' paths' remaining word here new r reader' ends) unread step))))

    pub seek_found : (ends : Bool) → ends ≡ true → SeeksName kind files' paths' remaining word here new middle reader' ends → SeeksFirst kind files paths remaining all (read_of self) (read_of new) reader reader'
    seek_found ends so step =
        let found = subst (λ e. SeeksName kind files paths remaining name self new reader reader' e) so (step_here ends step) in
        seek_ends all left others name (read_of self) reader is h (read_of new) reader' found.0

    pub seek_passed : (ends : Bool) → ends ≡ false → SeeksName kind files' paths' remaining word here new middle reader' ends → SeekContinues all others (read_of self) reader × (new ≡ self) × (reader' ≡ reader)
    seek_passed ends so step =
        let passed = subst (λ e. SeeksName kind files paths remaining name self new reader reader' e) so (step_here ends step) in
        (seek_more all left others name (read_of self) reader is h passed.0, passed.1, passed.2)

  -- what comes of the searches that are left comes of all
  abbrev pub SearchContinues : List (List (List ℕ)) → List (List (List ℕ)) → FilesRead → FilesRead → R → R → Type 0
  SearchContinues all left a c reader middle =
      ((b : FilesRead) (reader' : R) → SeeksInTurn kind files paths remaining left c b middle reader' → SeeksInTurn kind files paths remaining all a b reader reader')
      × ((why : RunFailure) (reader' : R) → FailsInSearches kind files paths remaining left c middle reader' why → FailsInSearches kind files paths remaining all a reader reader' why)

  module _ (all left others : List (List (List ℕ))) (names : List (List ℕ)) (a c : FilesRead) (reader middle : R) (is : left ≡ names ∷ others) (h : SearchContinues all left a c reader middle) where
    pub search_more : (d : FilesRead) (later : R) → SeeksFirst kind files paths remaining names c d middle later → SearchContinues all others a d reader later
    search_more d later step = (
      λ b reader' k. h.0 b reader' (subst (λ l. SeeksInTurn kind files paths remaining l c b middle reader') (sym is) (d, later, step, k)),
      λ why reader' k. h.1 why reader' (subst (λ l. FailsInSearches kind files paths remaining l c middle reader' why) (sym is) (inr (d, later, step, k))),
    )

    pub search_stops : (why : RunFailure) (reader' : R) → FailsInSearch kind files paths remaining names middle reader' why → FailsInSearches kind files paths remaining all a reader reader' why
    search_stops why reader' k = h.1 why reader' (subst (λ l. FailsInSearches kind files paths remaining l c middle reader' why) (sym is) (inl k))

  -- no search is left
  pub all_searched : (all left : List (List (List ℕ))) (a c : FilesRead) (reader middle : R) → [] ≡ left → SearchContinues all left a c reader middle → SeeksInTurn kind files paths remaining all a c reader middle
  all_searched all left a c reader middle is h = h.0 c middle (subst (λ l. SeeksInTurn kind files paths remaining l c c middle middle) is (refl, refl))

-- ---- the words of a call

-- the first word and the others
pub first_word : {W : Type 0} (f : W → List ℕ) (words : List W) (w : W) (text : List ℕ) → 1 ≤ length words → w ≡ get_or words 0 w → text ≡ f w → map f words ≡ text ∷ map f (take (length words - 1) (drop 1 words))
first_word f [] w text long is same = absurd (omega arith)
first_word f (x ∷ rest) w text long is same =
    let whole : take (length (x ∷ rest) - 1) rest ≡ rest = take_all (length (x ∷ rest) - 1) rest (omega arith) in
    ap (λ t. t ∷ map f rest) (sym (same ∙ ap f is)) ∙ ap (λ l. text ∷ map f l) (sym whole)

-- options after others
pub options_before : (options more : List (Named × List ℕ)) (operands : List (List ℕ)) (split : Split) → before (options ++ more) operands split ≡ before options operands (before more [] split)
options_before options more operands (Given others names) = ap (λ x. Given x (operands ++ names)) (append_assoc options more others)
options_before options more operands (UnknownWord word) = refl
options_before options more operands (Missing option) = refl

-- operands after others
pub operands_before : (options : List (Named × List ℕ)) (operands more : List (List ℕ)) (split : Split) → before options (operands ++ more) split ≡ before options operands (before [] more split)
operands_before options operands more (Given others names) = ap (λ y. Given (options ++ others) y) (append_assoc operands more names)
operands_before options operands more (UnknownWord word) = refl
operands_before options operands more (Missing option) = refl

module _ (rows : List Row) (word : List ℕ) (rest : List (List ℕ)) (goes_on : bytes_eq word (codes "--") ≡ false) where
  -- the word is an operand
  pub operand_next : is_option word ≡ false → split_words rows None (word ∷ rest) ≡ before [] (word ∷ []) (split_words rows None rest)
  operand_next none =
      let others = by_end word (word_options rows word) (λ awaited. split_words rows awaited rest) in
      let operand = before [] (word ∷ []) (split_words rows None rest) in
      ap (λ b. cond b (Given [] rest) (cond (is_option word) others operand)) goes_on ∙ ap (λ b. cond b others operand) none

  -- the word has options
  pub options_next : is_option word ≡ true → split_words rows None (word ∷ rest) ≡ by_end word (word_options rows word) (λ awaited. split_words rows awaited rest)
  options_next one =
      let others = by_end word (word_options rows word) (λ awaited. split_words rows awaited rest) in
      let operand = before [] (word ∷ []) (split_words rows None rest) in
      ap (λ b. cond b (Given [] rest) (cond (is_option word) others operand)) goes_on ∙ ap (λ b. cond b others operand) one

  -- it has only options
  pub whole_next : is_option word ≡ true → Whole ≡ (word_options rows word).1 → split_words rows None (word ∷ rest) ≡ before (word_options rows word).0 [] (split_words rows None rest)
  whole_next one is = options_next one ∙ ap (λ (e : End). by_end word ((word_options rows word).0, e) (λ awaited. split_words rows awaited rest)) (sym is)

  -- its last option awaits a value
  pub awaits_next : (option : Named) → is_option word ≡ true → Awaits option ≡ (word_options rows word).1 → split_words rows None (word ∷ rest) ≡ before (word_options rows word).0 [] (split_words rows (Some option) rest)
  awaits_next option one is = options_next one ∙ ap (λ (e : End). by_end word ((word_options rows word).0, e) (λ awaited. split_words rows awaited rest)) (sym is)

neither : (a b : Bool) → a ≡ false → b ≡ false → (a || b) ≡ false
neither a b x y = rw (x, y) refl

-- a word that neither asks for help nor for the version of the program
pub named_word : (word : List ℕ) (rest : List (List ℕ)) → bytes_eq word (codes "-h") ≡ false → bytes_eq word (codes "--help") ≡ false → bytes_eq word (codes "-V") ≡ false → bytes_eq word (codes "--version") ≡ false → bytes_eq word (codes "help") ≡ false → task_of (word ∷ rest) ≡ named_task word rest
named_word word rest no_h no_help no_v no_version no_word =
    let after_version = cond (bytes_eq word (codes "help")) (help_task rest) (named_task word rest) in
    let after_help = cond (bytes_eq word (codes "-V") || bytes_eq word (codes "--version")) NameVersion after_version in
    ap (λ b. cond b (Help topic.Program) after_help) (neither _ _ no_h no_help) ∙ ap (λ b. cond b NameVersion after_version) (neither _ _ no_v no_version) ∙ ap (λ b. cond b (help_task rest) (named_task word rest)) no_word

-- ---- how the words of `bump` are distinguished

front : (first : List ℕ) (words : List (List ℕ)) (last : List ℕ) → take (length (words ++ last ∷ [])) (first ∷ (words ++ last ∷ [])) ≡ first ∷ words
front first [] last = refl
front first (word ∷ words) last = ap (λ (ws : List (List ℕ)). first ∷ ws) (front word words last)

end : (first : List ℕ) (words : List (List ℕ)) (last : List ℕ) → get_or (first ∷ (words ++ last ∷ [])) (length (words ++ last ∷ [])) [] ≡ last
end first [] last = refl
end first (word ∷ words) last = end word words last

last_word : (to : Option ℕ) (before : List (List ℕ)) (last : List ℕ) → bump_operands to (before ++ last ∷ []) ≡ by_last to (before ++ last ∷ []) before last
last_word to [] last = refl
last_word to (word ∷ words) last =
    ap (λ ws. by_last to (word ∷ (words ++ last ∷ [])) ws (get_or (word ∷ (words ++ last ∷ [])) (length (words ++ last ∷ [])) [])) (front word words last)
    ∙ ap (by_last to (word ∷ (words ++ last ∷ [])) (word ∷ words)) (end word words last)

-- the operands end with this word
pub operands_end : {X : Type 0} (view : X → List ℕ) (to : Option ℕ) (words before : List X) (last : X) → words ≡ before ++ last ∷ [] → bump_operands to (map view words) ≡ by_last to (map view words) (map view before) (view last)
operands_end view to words before last is =
    let viewed : map view words ≡ map view before ++ view last ∷ [] = ap (map view) is ∙ map-append view before (last ∷ []) in
    ap (bump_operands to) viewed ∙ last_word to (map view before) (view last) ∙ ap (λ ws. by_last to ws (map view before) (view last)) (sym viewed)

reading_once : (text : List ℕ) (x y : Reading) → Reads text x → Reads text y → x ≡ y
reading_once text (Denotes r) (Denotes q) h k = ap Denotes (one_record text r q h k)
reading_once text (Denotes r) (Fails m) h (f, e, is) = absurd (not_both text r f h e)
reading_once text (Fails m) (Denotes r) (f, e, is) h = absurd (not_both text r f h e)
reading_once text (Fails m) (Fails n) (f, d, is) (g, e, so) = ap Fails (is ∙ ap rejection_text (one_refusal text f g d e) ∙ sym so)

specifiers_once : (text : List ℕ) (x y : SpecifiersReading) → ReadsSpecifiers text x → ReadsSpecifiers text y → x ≡ y
specifiers_once text (DenotesList l) (DenotesList m) h k = ap DenotesList (one_list text l m h k)
specifiers_once text (DenotesList l) (ListFails n) h (f, e, is) = absurd (not_both_list text l f h e)
specifiers_once text (ListFails m) (DenotesList l) (f, e, is) h = absurd (not_both_list text l f h e)
specifiers_once text (ListFails m) (ListFails n) (f, d, is) (g, e, so) = ap ListFails (is ∙ ap (λ (x : PieceRejection). list_rejection_text x text) (one_list_refusal text f g d e) ∙ sym so)

compare_once : (left : List ℕ) (operator : Comparison) (right : List ℕ) (a b : Outcome) → Compares left operator right a → Compares left operator right b → a ≡ b
compare_once left operator right a b (x, y, hx, hy, is) (u, v, hu, hv, so) =
    is ∙ ap (λ (z : Reading). comparison_outcome left z operator right y) (reading_once left x u hx hu) ∙ ap (λ (z : Reading). comparison_outcome left u operator right z) (reading_once right y v hy hv) ∙ sym so

word_once : (quiet takes : Bool) (list : List Spec) (word : List ℕ) (a b : Outcome) → MatchesWord quiet takes list word a → MatchesWord quiet takes list word b → a ≡ b
word_once quiet takes list word a b (x, hx, is) (u, hu, so) = is ∙ ap (word_outcome quiet takes list word) (reading_once word x u hx hu) ∙ sym so

all_once : {A B : Type 0} (R : A → B → Type 0) → ((t : A) (x y : B) → R t x → R t y → x ≡ y) → (texts : List A) (found there : List B) → AllZip R texts found → AllZip R texts there → found ≡ there
all_once R once [] [] [] h g = refl
all_once R once [] [] (y ∷ there) h g = absurd g
all_once R once [] (x ∷ found) there h g = absurd h
all_once R once (t ∷ texts) [] there h g = absurd h
all_once R once (t ∷ texts) (x ∷ found) [] h g = absurd g
all_once R once (t ∷ texts) (x ∷ found) (y ∷ there) h g =
    let head = once t x y h.0 g.0 in
    let tail = all_once R once texts found there h.1 g.1 in
    λ i. head i ∷ tail i

bytes_once : (text : List ℕ) (x y : Reading) → ReadsBytes text x → ReadsBytes text y → x ≡ y
bytes_once text x y (inl (bad, is)) (inl (also, so)) = is ∙ sym so
bytes_once text x y (inl (bad, is)) (inr (utf8, k)) = absurd (bad utf8)
bytes_once text x y (inr (utf8, h)) (inl (bad, so)) = absurd (bad utf8)
bytes_once text x y (inr (utf8, h)) (inr (again, k)) = reading_once text x y h k

field_once : (number : ℕ) (text : Option (List ℕ)) (x y : Reading) → ReadsField number text x → ReadsField number text y → x ≡ y
field_once number None x y is so = is ∙ sym so
field_once number (Some text) x y h k = bytes_once text x y h k

part_once : (number : Option ℕ) (delimiter : ℕ) (text : List ℕ) (x y : Reading) → ReadsPart number delimiter text x → ReadsPart number delimiter text y → x ≡ y
part_once None delimiter text x y h k = bytes_once text x y h k
part_once (Some number) delimiter text x y h k = field_once number (field number delimiter text) x y h k

entry_once : (header : Bool) (options : LineOptions) (text : List ℕ) (x y : LineReading) → IsEntry header options text x → IsEntry header options text y → x ≡ y
entry_once header options text Header Header h k = refl
entry_once header options text Header (Entry y) h k = let both : true ≡ false = sym h ∙ k.0 in cc both
entry_once header options text (Entry x) Header h k = let both : true ≡ false = sym k ∙ h.0 in cc both
entry_once header options text (Entry x) (Entry y) h k = ap Entry (part_once options.field options.delimiter text x y h.1 k.1)

is_read_once : (options : LineOptions) (line : SourceLine) (x y : ReadLine) → IsRead options line x → IsRead options line y → x ≡ y
is_read_once options line x y h k =
    let lines_same = h.0 ∙ sym k.0 in
    let readings = entry_once (is_header options line.number) options line.text x.reading y.reading h.1 k.1 in
    λ i. record { line = lines_same i; reading = readings i }

words_once : (quiet takes : Bool) (list : List Spec) (words : List (List ℕ)) (a b : Outcome) → MatchesWords quiet takes list words a → MatchesWords quiet takes list words b → a ≡ b
words_once quiet takes list words a b (os, h, is) (ps, k, so) = is ∙ ap in_turn (all_once (MatchesWord quiet takes list) (word_once quiet takes list) words os ps h k) ∙ sym so

by_once : (usage : List ℕ) (options : MatchOptions) (specifiers : List ℕ) (x : SpecifiersReading) (words : List (List ℕ)) (a b : Outcome) → MatchesBy usage options specifiers x words a → MatchesBy usage options specifiers x words b → a ≡ b
by_once usage options specifiers (DenotesList list) words a b h k = words_once _ _ list words a b h k
by_once usage options specifiers (ListFails message) words a b h k = h ∙ sym k

match_once : (usage : List ℕ) (options : MatchOptions) (specifiers : List ℕ) (words : List (List ℕ)) (a b : Outcome) → Matches usage options specifiers words a → Matches usage options specifiers words b → a ≡ b
match_once usage options specifiers words a b (x, hx, h) (u, hu, k) = by_once usage options specifiers x words a b h (subst (λ (z : SpecifiersReading). MatchesBy usage options specifiers z words b) (sym (specifiers_once specifiers x u hx hu)) k)

filters_once : (rule : FilterRule) (input : Input) (a b : Outcome) → Filters rule input a → Filters rule input b → a ≡ b
filters_once rule input a b (es, h, is) (fs, k, so) = is ∙ ap (λ l. filter_outcome rule l input.unopened) (all_once (IsRead rule.lines) (is_read_once rule.lines) (filled_lines input.sources) es fs h k) ∙ sym so

filter_by_once : (usage : List ℕ) (options : FilterOptions) (specifiers : List ℕ) (x : SpecifiersReading) (input : Input) (a b : Outcome) → FiltersBy usage options specifiers x input a → FiltersBy usage options specifiers x input b → a ≡ b
filter_by_once usage options specifiers (DenotesList list) input a b h k = filters_once (rule_of options list) input a b h k
filter_by_once usage options specifiers (ListFails message) input a b h k = h ∙ sym k

filter_once : (usage : List ℕ) (options : FilterOptions) (specifiers : List ℕ) (input : Input) (a b : Outcome) → FiltersLines usage options specifiers input a → FiltersLines usage options specifiers input b → a ≡ b
filter_once usage options specifiers input a b (x, hx, h) (u, hu, k) = filter_by_once usage options specifiers x input a b h (subst (λ (z : SpecifiersReading). FiltersBy usage options specifiers z input b) (sym (specifiers_once specifiers x u hx hu)) k)

-- what is written where no invalid line is an error is one outcome, and so is what is written of any lines
of_found_once : (how : InvalidLines) (Gives : InputParts → Outcome → Type 0) → ((parts : InputParts) (a b : Outcome) → Gives parts a → Gives parts b → a ≡ b) → (found : List ReadLine) (a b : Outcome) → OfFound how Gives found a → OfFound how Gives found b → a ≡ b
of_found_once how Gives once found a b (inl (none, h)) (inl (also, k)) = once (input_parts how found) a b h k
of_found_once how Gives once found a b (inl (none, h)) (inr (some, k)) = absurd (omega (arith, none, some))
of_found_once how Gives once found a b (inr (some, h)) (inl (none, k)) = absurd (omega (arith, none, some))
of_found_once how Gives once found a b (inr (some, is)) (inr (also, so)) = is ∙ sym so

of_sources_once : (options : LineOptions) (Gives : InputParts → Outcome → Type 0) → ((parts : InputParts) (a b : Outcome) → Gives parts a → Gives parts b → a ≡ b) → (sources : List Source) (unopened : Option UnopenedSource) (a b : Outcome)
    → OfSources options Gives sources unopened a → OfSources options Gives sources unopened b → a ≡ b
of_sources_once options Gives once sources None a b (es, h, is) (fs, k, so) =
    of_found_once options.invalid Gives once es a b is (subst (λ (l : List ReadLine). OfFound options.invalid Gives l b) (sym (all_once (IsRead options) (is_read_once options) (filled_lines sources) es fs h k)) so)
of_sources_once options Gives once sources (Some file) a b is so = is ∙ sym so

of_versions_once : (options : LineOptions) (Gives : InputParts → Outcome → Type 0) → ((parts : InputParts) (a b : Outcome) → Gives parts a → Gives parts b → a ≡ b) → (input : Input) (a b : Outcome) → OfVersions options Gives input a → OfVersions options Gives input b → a ≡ b
of_versions_once options Gives once input a b h k = of_sources_once options Gives once input.sources input.unopened a b h k

sort_once : (options : SortOptions) (parts : InputParts) (a b : Outcome) → SortsParts options parts a → SortsParts options parts b → a ≡ b
sort_once options parts a b (xs, h, is) (ys, k, so) = is ∙ ap (sort_outcome options parts) (one_sorted options.reversed parts.versions xs ys h k) ∙ sym so

finds_once : (rule : NewestRule) (parts : InputParts) (a b : Outcome) → FindsNewest rule parts a → FindsNewest rule parts b → a ≡ b
finds_once rule parts a b (x, h, is) (y, k, so) =
    is ∙ ap (λ newest. newest_outcome parts.messages (taken rule.prereleases newest)) (one_newest (takes_prereleases rule.prereleases rule.list) rule.list parts.versions x y h k) ∙ sym so

newest_by_once : (usage : List ℕ) (options : NewestOptions) (specifiers : List ℕ) (x : SpecifiersReading) (input : Input) (a b : Outcome) → FindsNewestBy usage options specifiers x input a → FindsNewestBy usage options specifiers x input b → a ≡ b
newest_by_once usage options specifiers (DenotesList list) input a b h k = let rule = newest_rule options list in of_versions_once options.lines (FindsNewest rule) (finds_once rule) input a b h k
newest_by_once usage options specifiers (ListFails message) input a b h k = h ∙ sym k

newest_once : (usage : List ℕ) (options : NewestOptions) (specifiers : List ℕ) (input : Input) (a b : Outcome) → FindsNewestLine usage options specifiers input a → FindsNewestLine usage options specifiers input b → a ≡ b
newest_once usage options specifiers input a b (x, hx, h) (u, hu, k) = newest_by_once usage options specifiers x input a b h (subst (λ (z : SpecifiersReading). FindsNewestBy usage options specifiers z input b) (sym (specifiers_once specifiers x u hx hu)) k)

show_word_once : (format : ShowFormat) (word : List ℕ) (a b : Outcome) → ShowsWord format word a → ShowsWord format word b → a ≡ b
show_word_once format word a b (x, hx, is) (u, hu, so) = is ∙ ap (show_outcome format word) (reading_once word x u hx hu) ∙ sym so

show_once : (format : ShowFormat) (words : List (List ℕ)) (a b : Outcome) → Shows format words a → Shows format words b → a ≡ b
show_once format words a b (os, h, is) (ps, k, so) = is ∙ ap in_turn (all_once (ShowsWord format) (show_word_once format) words os ps h k) ∙ sym so

bump_once : (to : Option ℕ) (parts : List BumpPart) (word : List ℕ) (a b : Outcome) → Bumps to parts word a → Bumps to parts word b → a ≡ b
bump_once to parts word a b (x, hx, is) (u, hu, so) = is ∙ ap (bump_outcome to parts word) (reading_once word x u hx hu) ∙ sym so

list_once : (word : List ℕ) (x y : ListReading) → ReadsMembers word x → ReadsMembers word y → x ≡ y
list_once word x y (l, hl, is) (m, hm, so) = is ∙ ap (list_reading word) (specifiers_once word l m hl hm) ∙ sym so

common_once : (json : Bool) (words : List (List ℕ)) (a b : Outcome) → FindsCommon json words a → FindsCommon json words b → a ≡ b
common_once json words a b (xs, h, is) (ys, k, so) =
    one_printed json (messages_in xs) (members_in xs) a b is (subst (λ (l : List ListReading). PrintsLists json (messages_in l) (members_in l) b) (sym (all_once ReadsMembers list_once words xs ys h k)) so)

pub outcomes_once : OutcomesOnce
outcomes_once (Help topic) input a b few h k = h ∙ sym k
outcomes_once NameVersion input a b few h k = h ∙ sym k
outcomes_once (Compare left operator right) input a b few h k = compare_once left operator right a b h k
outcomes_once (Match options specifiers words) input a b few h k = match_once (usage topic.Match) options specifiers words a b h k
outcomes_once (Filter options specifiers names) input a b few h k = filter_once (usage topic.Filter) options specifiers input a b h k
outcomes_once (Sort options names) input a b few h k = of_versions_once options.lines (SortsParts options) (sort_once options) input a b h k
outcomes_once (Newest options specifiers names) input a b few h k = newest_once (usage topic.Newest) options specifiers input a b h k
outcomes_once (Show format words) input a b few h k = show_once format words a b h k
outcomes_once (Bump to parts None) input a b few h k = of_versions_once bare_line_options (BumpsOnly to parts) (λ lines a b is so. is ∙ sym so) input a b h k
outcomes_once (Bump to parts (Some word)) input a b few h k = bump_once to parts word a b h k
outcomes_once (Range json words) input a b few h k = common_once json words a b h k
outcomes_once (Marker linked marker other) input a b few h k = absurd (few tt)
outcomes_once (Check options names) input a b few h k = absurd h
outcomes_once (Misused message) input a b few h k = h ∙ sym k

-- what is undecided in the report of the lines is so in that of all files
still_undecided : (unopened : List UnopenedFile) (a b : CheckResult) (q d : Report) → b ≡ with_report unopened a (without_ignored (joined_report q d)) → IsUndecided q → IsUndecided b.report
still_undecided unopened a b q d is found =
    subst (λ (c : CheckResult). IsUndecided c.report) (sym is) (Contains-append_right a.report.left_out (q.left_out ++ d.left_out) _ (Contains-append_left q.left_out d.left_out _ found))

-- and so is what is undecided in that of the documents
undecided_there : (unopened : List UnopenedFile) (a b : CheckResult) (q d : Report) → b ≡ with_report unopened a (without_ignored (joined_report q d)) → IsUndecided d → IsUndecided b.report
undecided_there unopened a b q d is found =
    subst (λ (c : CheckResult). IsUndecided c.report) (sym is) (Contains-append_right a.report.left_out (q.left_out ++ d.left_out) _ (Contains-append_right q.left_out d.left_out _ found))

pub checks_once : ChecksOnce
unfolding ChecksOnce
checks_once read a b c readable (q, d, hq, hd, is) (p, e, hp, he, so) decided also =
    let of_lines = reports_once read.requirements q p hq hp (λ found. decided (still_undecided read.unopened a b q d is found)) (λ found. also (still_undecided read.unopened a c p e so found)) in
    let of_documents = document_reports_once read.documents d e readable hd he (λ found. decided (undecided_there read.unopened a b q d is found)) (λ found. also (undecided_there read.unopened a c p e so found)) in
    let one = joined_report q d in
    let other = joined_report p e in
    let found : without_environments (without_ignored one) ≡ without_environments (without_ignored other) =
    ignored_alike one
    ∙ ap without_ignored (joined_alike q d ∙ (λ j. joined_report (of_lines j) (of_documents j)) ∙ sym (joined_alike p e))
    ∙ sym (ignored_alike other) in (
      ap (λ (c : CheckResult). without_environments c.report) is ∙ joined_alike a.report (without_ignored one)
          ∙ ap (joined_report (without_environments a.report)) found
          ∙ sym (joined_alike a.report (without_ignored other)) ∙ sym (ap (λ (c : CheckResult). without_environments c.report) so),
      ap (λ (c : CheckResult). c.unopened) is ∙ sym (ap (λ (c : CheckResult). c.unopened) so),
    )
