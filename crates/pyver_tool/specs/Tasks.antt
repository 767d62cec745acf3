-- The tasks that the words of a call name, and their outcomes: at most one of each, but of `marker`.
use Rattle.std.specs.Prelude.{Bool, List, None, Option, Some, [], bytes_eq, codes, false, get_or, if◌then◌else◌, is_some, length, map, take, true, ℕ, ⊤, ◌++◌, ◌==◌, ◌||◌, ◌∷◌, ◌≡◌}
use Rattle.std.specs.Char.{is_ascii_digit}
use Rattle.std.specs.List.{All, find, list_any}
use Rattle.std.specs.Option.{option_map_or}
use Rattle.pep440_rs.specs.Lists.ListGrammar.{DerivesList}
use Rattle.pep440_rs.specs.Specifiers.{Spec}
use Rattle.pyver_commands.specs.WholeInputs.{BumpsInput}
use Rattle.pyver_commands.specs.Bumps.{Bumps, bump_part_of}
use Rattle.pyver_commands.specs.CommonRanges.{FindsCommon}
use Rattle.pyver_commands.specs.Comparisons.{Compares, comparison_of}
use Rattle.pyver_commands.specs.Filters.{FiltersLines}
use Rattle.pyver_commands.specs.MarkerExtents.{FindsExtent}
use Rattle.pyver_commands.specs.Matches.{Matches}
use Rattle.pyver_tool.specs.SplitWords.{Given, Missing, Named, Split, UnknownWord, missing_message, pipenv_message, split_words, unknown_message, usage_message, value_message, version_last_message, options}
use Rattle.pyver_commands.specs.NewestOutcomes.{FindsNewestLine}
use Rattle.cli_io.specs.Runs.{Outcome}
use Rattle.pyver_commands.specs.Outcomes.{message_outcome}
use Rattle.pyver_tool.specs.Settings.{Effect, Sets, WrongValue, effect, no_settings}
use Rattle.pyver_commands.specs.Shows.{Shows}
use Rattle.pyver_commands.specs.Sorts.{SortsLines}
use Rattle.pyver_commands.specs.Sources.{Input, input_name, source_names}
use Rattle.pyver_commands.specs.declared.allowed.MatchOptions.{MatchOptions}
use Rattle.pyver_commands.specs.declared.bump.BumpPart.{BumpPart}
use Rattle.pyver_tool.specs.declared.check.CheckOptions.{CheckOptions}
use Rattle.pyver_commands.specs.declared.comparison.Comparison.{Comparison}
use Rattle.pyver_commands.specs.declared.filter.FilterOptions.{FilterOptions}
use Rattle.pyver_tool.specs.declared.help.Topic.{Topic}
use Rattle.pyver_tool.specs.declared.help.TheConstants.{BUMP_HELP, BUMP_USAGE, CHECK_HELP, CHECK_USAGE, COMPARE_HELP, COMPARE_USAGE, FILTER_HELP, FILTER_USAGE, MARKER_HELP, MARKER_USAGE, MATCH_HELP, MATCH_USAGE, NEWEST_HELP, NEWEST_USAGE, PROGRAM_HELP, PROGRAM_USAGE, RANGE_HELP, RANGE_USAGE, SHOW_HELP, SHOW_USAGE, SORT_HELP, SORT_USAGE, VERSION_LINE}
use Rattle.pyver_commands.specs.declared.newest.NewestOptions.{NewestOptions}
use Rattle.pyver_tool.specs.declared.misuse.TheConstants.{BUMP_PART_NAMES, COMMAND_NAMES, OPERATOR_NAMES}
use Rattle.pyver_tool.specs.declared.settings.Settings.{Settings}
use Rattle.pyver_commands.specs.declared.show.ShowFormat.{ShowFormat}
use Rattle.pyver_commands.specs.declared.sort.SortOptions.{SortOptions}
use Rattle.pyver_findings.specs.FindingLaws.{AreAlike, IsUndecided}
use Rattle.pyver_documents.specs.DocumentKinds.{is_pipenv_path}
use Rattle.pyver_documents.specs.DocumentLaws.{IsReadable}
use Rattle.pyver_tool.specs.Checks.{CheckResult, GainsReport}
use Rattle.pyver_tool.specs.RequirementFiles.{FilesRead}
use Rattle.pyver_tool.specs.declared.help.Topic.TheVariants as topic
use Rattle.pyver_commands.specs.declared.show.ShowFormat.TheVariants as format

-- what the words ask for, or the message of why they ask for nothing; `bump` without a version reads one
pub data Task : Type 0 where
  Help : Topic → Task
  NameVersion : Task
  Compare : List ℕ → Comparison → List ℕ → Task
  Match : MatchOptions → List ℕ → List (List ℕ) → Task
  Filter : FilterOptions → List ℕ → List (List ℕ) → Task
  Sort : SortOptions → List (List ℕ) → Task
  Newest : NewestOptions → List ℕ → List (List ℕ) → Task
  Show : ShowFormat → List (List ℕ) → Task
  Bump : Option ℕ → List BumpPart → Option (List ℕ) → Task
  Range : Bool → List (List ℕ) → Task
  Marker : Bool → List ℕ → Option (List ℕ) → Task
  Check : CheckOptions → List (List ℕ) → Task
  Misused : List ℕ → Task

-- ---- the names of the program

-- the command of this name
abbrev pub topic_of : List ℕ → Option Topic
topic_of word =
    if bytes_eq word (codes "compare") then Some topic.Compare
    else if bytes_eq word (codes "match") then Some topic.Match
    else if bytes_eq word (codes "filter") then Some topic.Filter
    else if bytes_eq word (codes "sort") then Some topic.Sort
    else if bytes_eq word (codes "newest") then Some topic.Newest
    else if bytes_eq word (codes "show") then Some topic.Show
    else if bytes_eq word (codes "bump") then Some topic.Bump
    else if bytes_eq word (codes "range") then Some topic.Range
    else if bytes_eq word (codes "marker") then Some topic.Marker
    else if bytes_eq word (codes "check") then Some topic.Check
    else None

-- the usage line of a command
abbrev pub usage : Topic → List ℕ
usage topic.Program = PROGRAM_USAGE.now
usage topic.Compare = COMPARE_USAGE.now
usage topic.Match = MATCH_USAGE.now
usage topic.Filter = FILTER_USAGE.now
usage topic.Sort = SORT_USAGE.now
usage topic.Newest = NEWEST_USAGE.now
usage topic.Show = SHOW_USAGE.now
usage topic.Bump = BUMP_USAGE.now
usage topic.Range = RANGE_USAGE.now
usage topic.Marker = MARKER_USAGE.now
usage topic.Check = CHECK_USAGE.now

-- the words that print the help of a command
abbrev pub help_words : Topic → List ℕ
help_words topic.Program = codes "pyver --help"
help_words topic.Compare = codes "pyver compare --help"
help_words topic.Match = codes "pyver match --help"
help_words topic.Filter = codes "pyver filter --help"
help_words topic.Sort = codes "pyver sort --help"
help_words topic.Newest = codes "pyver newest --help"
help_words topic.Show = codes "pyver show --help"
help_words topic.Bump = codes "pyver bump --help"
help_words topic.Range = codes "pyver range --help"
help_words topic.Marker = codes "pyver marker --help"
help_words topic.Check = codes "pyver check --help"

-- the text of `--help`
abbrev pub help_text : Topic → List ℕ
help_text topic.Program = PROGRAM_HELP.now
help_text topic.Compare = COMPARE_HELP.now
help_text topic.Match = MATCH_HELP.now
help_text topic.Filter = FILTER_HELP.now
help_text topic.Sort = SORT_HELP.now
help_text topic.Newest = NEWEST_HELP.now
help_text topic.Show = SHOW_HELP.now
help_text topic.Bump = BUMP_HELP.now
help_text topic.Range = RANGE_HELP.now
help_text topic.Marker = MARKER_HELP.now
help_text topic.Check = CHECK_HELP.now

-- ---- wrong words

-- the message of a word that is no command
abbrev pub wrong_command : List ℕ → List ℕ
wrong_command word = unknown_message (codes "command") word (map (λ n. n.now) COMMAND_NAMES.now) (help_words topic.Program)

-- the message of an option that the command does not have
abbrev pub wrong_option : Topic → List ℕ → List ℕ
wrong_option topic word = unknown_message (codes "option") word (map (λ row. row.name) (options topic)) (help_words topic)

-- the message of an option with a wrong value
abbrev pub wrong_value : Topic → Named → List ℕ → List ℕ
wrong_value topic option value = value_message option value (help_words topic)

-- the message of an option without its value
abbrev pub wrong_end : Topic → Named → List ℕ
wrong_end topic option = missing_message option (help_words topic)

-- the message of a word that is no operator
abbrev pub wrong_operator : List ℕ → List ℕ
wrong_operator word = unknown_message (codes "operator") word (map (λ n. n.now) OPERATOR_NAMES.now) (help_words topic.Compare)

-- the message of a word that names no part
abbrev pub wrong_part : List ℕ → List ℕ
wrong_part word = unknown_message (codes "part") word (map (λ n. n.now) BUMP_PART_NAMES.now) (help_words topic.Bump)

-- the message of too few or too many words
abbrev pub wrong_count : Topic → List ℕ
wrong_count topic = usage_message (usage topic) (help_words topic)

-- ---- operands

-- the version is raised by these parts and then by those that the words name
abbrev pub bump_from_words : Option ℕ → List BumpPart → List (List ℕ) → Option (List ℕ) → Task
bump_from_words to parts [] version = Bump to parts version
bump_from_words to parts (word ∷ rest) version = option_map_or (λ part. bump_from_words to (parts ++ part ∷ []) rest version) (bump_part_of word) (Misused (wrong_part word))

-- parts, at least one, and then this version
abbrev pub bump_word : Option ℕ → List (List ℕ) → List ℕ → Task
bump_word to [] version = Misused (wrong_count topic.Bump)
bump_word to (word ∷ words) version = bump_from_words to [] (word ∷ words) (Some version)

abbrev pub begins_with_digit : List ℕ → Bool
begins_with_digit [] = false
begins_with_digit (b ∷ rest) = is_ascii_digit b

-- a digit, or `v` and a digit, begins the word, and no part
abbrev pub has_number : List ℕ → Bool
has_number [] = false
has_number (b ∷ rest) = if b == 118 then begins_with_digit rest else is_ascii_digit b

-- the words name parts, and the version is read; but the first may be a version
abbrev pub bump_parts : Option ℕ → List (List ℕ) → Task
bump_parts to [] = bump_from_words to [] [] None
bump_parts to (word ∷ rest) = if has_number word then Misused (version_last_message to word rest) else bump_from_words to [] (word ∷ rest) None

-- the last of the words is the version, unless it names a part: then all name parts
abbrev pub by_last : Option ℕ → List (List ℕ) → List (List ℕ) → List ℕ → Task
by_last to words before last = if is_some (bump_part_of last) then bump_parts to words else bump_word to before last

abbrev pub bump_operands : Option ℕ → List (List ℕ) → Task
bump_operands to [] = Misused (wrong_count topic.Bump)
bump_operands to (word ∷ rest) = by_last to (word ∷ rest) (take (length rest) (word ∷ rest)) (get_or (word ∷ rest) (length rest) [])

-- JSON is printed
abbrev pub is_json : ShowFormat → Bool
is_json format.Json = true
is_json _ = false

-- the task of `check` with these settings and names, the first of which that is of Pipenv is this
abbrev pub check_with : Settings → List (List ℕ) → Option (List ℕ) → Task
check_with settings names (Some name) = Misused (pipenv_message name)
check_with settings names None = Check (record { output = settings.output; each = settings.each; quiet = settings.quiet; kind = settings.kind; seeks_locks = settings.seeks_locks }) names

-- the task of a command with these settings and operands
abbrev pub task_with : Settings → Topic → List (List ℕ) → Task
task_with settings topic.Compare (left ∷ word ∷ right ∷ []) = option_map_or (λ operator. Compare left operator right) (comparison_of word) (Misused (wrong_operator word))
task_with settings topic.Match (specifiers ∷ word ∷ words) = Match (record { quiet = settings.quiet; prereleases = settings.prereleases }) specifiers (word ∷ words)
task_with settings topic.Filter (specifiers ∷ names) = Filter (record { inverted = settings.inverted; prereleases = settings.prereleases; lines = settings.lines }) specifiers names
task_with settings topic.Sort names = Sort (record { reversed = settings.reversed; unique = settings.unique; last = settings.last; lines = settings.lines }) names
task_with settings topic.Newest (specifiers ∷ names) = Newest (record { prereleases = settings.prereleases; lines = settings.lines }) specifiers names
task_with settings topic.Show (word ∷ words) = Show settings.format (word ∷ words)
task_with settings topic.Bump words = bump_operands settings.to words
task_with settings topic.Range (word ∷ words) = Range (is_json settings.format) (word ∷ words)
task_with settings topic.Marker (marker ∷ []) = Marker settings.linked marker None
task_with settings topic.Marker (marker ∷ other ∷ []) = Marker settings.linked marker (Some other)
task_with settings topic.Check names = check_with settings names (find is_pipenv_path names)
task_with settings topic _ = Misused (wrong_count topic)

-- ---- words

-- the task of a command with what its options set
abbrev pub by_effect : Topic → List (List ℕ) → Effect → Task
by_effect topic operands (Sets settings) = task_with settings topic operands
by_effect topic operands (WrongValue option value) = Misused (wrong_value topic option value)

-- `--help` is among the options
abbrev pub asks_help : List (Named × List ℕ) → Bool
asks_help given = list_any (λ g. bytes_eq g.0.0.name (codes "--help")) given

-- the task of a command with these options and operands
abbrev pub by_split : Topic → Split → Task
by_split topic (Given given operands) = if asks_help given then Help topic else by_effect topic operands (effect no_settings given)
by_split topic (UnknownWord word) = Misused (wrong_option topic word)
by_split topic (Missing option) = Misused (wrong_end topic option)

-- the word is one of the program's own, and no command
abbrev pub is_program_word : List ℕ → Bool
is_program_word word = bytes_eq word (codes "help") || (bytes_eq word (codes "-h") || (bytes_eq word (codes "--help") || (bytes_eq word (codes "-V") || bytes_eq word (codes "--version"))))

-- the help of the program or of the command that is named
abbrev pub help_task : List (List ℕ) → Task
help_task [] = Help topic.Program
help_task (word ∷ []) = if is_program_word word then Help topic.Program else option_map_or Help (topic_of word) (Misused (wrong_command word))
help_task _ = Misused (wrong_count topic.Program)

-- the task of a word that names a command, and the words after it
abbrev pub named_task : List ℕ → List (List ℕ) → Task
named_task word rest = option_map_or (λ topic. by_split topic (split_words (options topic) None rest)) (topic_of word) (Misused (wrong_command word))

-- the task that the words ask for, of which the first is a command; without one the help is the message
abbrev pub task_of : List (List ℕ) → Task
task_of [] = Misused (help_text topic.Program)
task_of (word ∷ rest) =
    if bytes_eq word (codes "-h") || bytes_eq word (codes "--help") then Help topic.Program
    else if bytes_eq word (codes "-V") || bytes_eq word (codes "--version") then NameVersion
    else if bytes_eq word (codes "help") then help_task rest
    else named_task word rest

-- the outcome that prints a string on standard output
abbrev pub printed : List ℕ → Outcome
printed text = record { output = text; errors = []; status = 0 }

-- the outcome of a task, if this is what is read; what `check` prints depends on whole files
abbrev pub IsOutcome : Task → Input → Outcome → Type 0
IsOutcome (Help about) input o = o ≡ printed (help_text about)
IsOutcome NameVersion input o = o ≡ printed VERSION_LINE.now
IsOutcome (Compare left operator right) input o = Compares left operator right o
IsOutcome (Match options specifiers words) input o = Matches (usage topic.Match) options specifiers words o
IsOutcome (Filter options specifiers names) input o = FiltersLines (usage topic.Filter) options specifiers input o
IsOutcome (Sort options names) input o = SortsLines options input o
IsOutcome (Newest options specifiers names) input o = FindsNewestLine (usage topic.Newest) options specifiers input o
IsOutcome (Show asked words) input o = Shows asked words o
IsOutcome (Bump to parts None) input o = BumpsInput to parts input o
IsOutcome (Bump to parts (Some word)) input o = Bumps to parts word o
IsOutcome (Range options words) input o = FindsCommon options words o
IsOutcome (Marker linked marker other) input o = FindsExtent linked marker other o
IsOutcome (Check options names) input o = ⊥
IsOutcome (Misused message) input o = o ≡ message_outcome message

-- `sort` and `check`, `filter` and `newest` with a valid list, and `bump` without a version read sources
abbrev pub NeedsInput : Task → Type 0
NeedsInput (Filter options specifiers names) = (list : List Spec) × DerivesList specifiers list
NeedsInput (Sort options names) = ⊤
NeedsInput (Newest options specifiers names) = (list : List Spec) × DerivesList specifiers list
NeedsInput (Bump to parts None) = ⊤
NeedsInput (Check options names) = ⊤
NeedsInput _ = ⊥

-- the names of the sources that are read, but those of `check`, which reads whole files
abbrev pub names_read_by : Task → List (List ℕ)
names_read_by (Filter options specifiers names) = source_names names
names_read_by (Sort options names) = source_names names
names_read_by (Newest options specifiers names) = source_names names
names_read_by (Bump to parts None) = input_name ∷ []
names_read_by _ = []

-- lines are printed before all are read
abbrev pub IsStream : Task → Type 0
IsStream (Filter options specifiers names) = ⊤
IsStream _ = ⊥

abbrev pub IsOneOfMany : Task → Type 0
IsOneOfMany (Marker linked marker other) = ⊤
IsOneOfMany _ = ⊥

-- another task and what is read have at most one outcome
abbrev pub OutcomesOnce : Type 0
OutcomesOnce = (task : Task) (input : Input) (a b : Outcome) → ¬ IsOneOfMany task → IsOutcome task input a → IsOutcome task input b → a ≡ b

-- what is found in files is one thing but for the environments named, if no set of markers is undecided, and each document is TOML in UTF-8: of
-- another the reason and its position are not stated
unfoldable pub ChecksOnce : Type 0
ChecksOnce = (read : FilesRead) (a b c : CheckResult) → All IsReadable read.documents → GainsReport read a b → GainsReport read a c
    → ¬ IsUndecided b.report → ¬ IsUndecided c.report → AreAlike b.report c.report × (b.unopened ≡ c.unopened)
