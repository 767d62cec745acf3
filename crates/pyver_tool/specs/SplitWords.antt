-- The options of each command, as the tables of the program have them, and the kinds of files: by their names, or else by `--format`.
-- Words as options and operands, by the options that a command has, and the messages of those that are none.
use Rattle.std.specs.Prelude.{Bool, List, None, Option, Some, bytes_eq, codes, false, if◌then◌else◌, map, not, option_map, true, ℕ, ◌&&◌, [], drop, is_some, length, nat_eq, nat_le, nat_lt, ◌++◌, ◌==◌, ◌||◌, ◌∷◌}
use Rattle.pyver_tool.specs.declared.help.Topic.{Topic}
use Rattle.pyver_tool.specs.declared.options.TheConstants.{BUMP_OPTIONS, CHECK_OPTIONS, COMPARE_OPTIONS, FILTER_OPTIONS, MARKER_OPTIONS, MATCH_OPTIONS, NEWEST_OPTIONS, RANGE_OPTIONS, SHOW_OPTIONS, SORT_OPTIONS}
use Rattle.pyver_documents.specs.DocumentKinds.{is_document_path, kind_of_path, kind_of_word}
use Rattle.pyver_documents.specs.declared.document_kind.DocumentKind.{DocumentKind}
use Rattle.pyver_documents.specs.declared.document_kind.DocumentKind.TheVariants.{Lock}
use Rattle.pyver_locks.specs.declared.lock_kind.LockKind.TheVariants as lock_kind
use Rattle.pyver_tool.specs.declared.options.FileKind.{FileKind}
use Rattle.pyver_tool.specs.declared.options.FileKind.TheVariants.{Document, Requirements}
use Rattle.pyver_tool.specs.declared.help.Topic.TheVariants as topic
use Rattle.std.specs.List.{flat_map, starts_with}
use Rattle.std.specs.Option.{option_map}
use Rattle.std.specs.Fmt.{decimal}
use Rattle.cli_io.specs.Escapes.{escaped}

-- an option: its letter or nothing, its name, what its value is or nothing if it has none, and its values if they are few
pub record Row : Type 0 where
  pub letter : List ℕ
  pub name : List ℕ
  pub value : List ℕ
  pub choices : List (List ℕ)

-- a row of strings, where `text` are the bytes of a string, and `texts` the strings of a list
abbrev pub row_of : {S T : Type 0} (text : S → List ℕ) (texts : T → List S) → (S × S × S × T) → Row
row_of text texts row = record { letter = text row.0; name = text row.1; value = text row.2; choices = map text (texts row.3) }

abbrev pub rows_of : {S T : Type 0} (text : S → List ℕ) (texts : T → List S) → List (S × S × S × T) → List Row
rows_of text texts rows = map (row_of text texts) rows

-- the options of a command
abbrev pub options : Topic → List Row
options topic.Program = rows_of (λ s. s.now) (λ t. t.now) COMPARE_OPTIONS.now
options topic.Compare = rows_of (λ s. s.now) (λ t. t.now) COMPARE_OPTIONS.now
options topic.Match = rows_of (λ s. s.now) (λ t. t.now) MATCH_OPTIONS.now
options topic.Filter = rows_of (λ s. s.now) (λ t. t.now) FILTER_OPTIONS.now
options topic.Sort = rows_of (λ s. s.now) (λ t. t.now) SORT_OPTIONS.now
options topic.Newest = rows_of (λ s. s.now) (λ t. t.now) NEWEST_OPTIONS.now
options topic.Show = rows_of (λ s. s.now) (λ t. t.now) SHOW_OPTIONS.now
options topic.Bump = rows_of (λ s. s.now) (λ t. t.now) BUMP_OPTIONS.now
options topic.Range = rows_of (λ s. s.now) (λ t. t.now) RANGE_OPTIONS.now
options topic.Marker = rows_of (λ s. s.now) (λ t. t.now) MARKER_OPTIONS.now
options topic.Check = rows_of (λ s. s.now) (λ t. t.now) CHECK_OPTIONS.now

-- the value of `--format`: `requirements`, or the word of a document's kind
unfoldable pub file_kind_of : List ℕ → Option FileKind
file_kind_of word = if bytes_eq word (codes "requirements") then Some Requirements else option_map Document (kind_of_word word)

-- the kind, if none is given
abbrev pub unknown_kind : FileKind
unknown_kind = Document (Lock lock_kind.Unknown)

abbrev pub is_unknown : FileKind → Bool
is_unknown (Document (Lock lock_kind.Unknown)) = true
is_unknown _ = false

-- this kind; if none is given, a file that is not named as documents are has requirements
abbrev pub kind_by_ending : FileKind → Bool → FileKind
kind_by_ending kind is_document = if is_unknown kind && not is_document then Requirements else kind

abbrev pub kind_by : FileKind → Option DocumentKind → FileKind
kind_by other None = other
kind_by other (Some kind) = Document kind

-- the kind of the file with this name: the one by its name, or else this one
abbrev pub kind_by_name : FileKind → List ℕ → FileKind
kind_by_name other name = kind_by (kind_by_ending other (is_document_path name)) (kind_of_path name)

-- ---- words

-- a dash and at least one more byte
abbrev pub is_option : List ℕ → Bool
is_option [] = false
is_option (b ∷ rest) = (b == 45) && nat_lt 0 (length rest)

-- the rest of the word after this prefix
abbrev pub value_behind : List ℕ → List ℕ → Option (List ℕ)
value_behind start word = if starts_with nat_eq word start then Some (drop (length start) word) else None

abbrev pub takes_value : Row → Bool
takes_value row = nat_lt 0 (length row.value)

-- an option, and whether it is named by its letter
abbrev pub Named : Type 0
Named = Row × Bool

-- how a word of options ends: with its last option, with one whose value is the next word, or with what is no option
pub data End : Type 0 where
  Whole : End
  Awaits : Named → End
  Unknown : End

-- ---- letters, as in `-ru` and `-n2`

-- the option with this letter
abbrev pub lettered : List Row → ℕ → Option Row
lettered [] b = None
lettered (row ∷ rows) b = if bytes_eq row.letter (b ∷ []) then Some row else lettered rows b

-- the option with the first letter, and the other letters
abbrev pub first_letter : List Row → List ℕ → Option (Row × List ℕ)
first_letter rows [] = None
first_letter rows (b ∷ after) = option_map (λ row. (row, after)) (lettered rows b)

-- an option without a value, and then the others
abbrev pub with_flag : Row → (List (Named × List ℕ) × End) → (List (Named × List ℕ) × End)
with_flag row others = (((row, true), []) ∷ others.0, others.1)

-- an option with a value, which is the rest of the word, or the next word if nothing is left
abbrev pub with_rest : Row → List ℕ → (List (Named × List ℕ) × End)
with_rest row [] = ([], Awaits (row, true))
with_rest row (b ∷ rest) = (((row, true), b ∷ rest) ∷ [], Whole)

abbrev pub by_letter : Option Row → List ℕ → (List (Named × List ℕ) × End) → (List (Named × List ℕ) × End)
by_letter None after others = ([], Unknown)
by_letter (Some row) after others = if takes_value row then with_rest row after else with_flag row others

-- each letter is an option, and the first that takes a value is the last
abbrev pub letter_options : List Row → List ℕ → (List (Named × List ℕ) × End)
letter_options rows [] = ([], Whole)
letter_options rows (b ∷ after) = by_letter (lettered rows b) after (letter_options rows after)

-- ---- names, as in `--last` and `--last=2`

abbrev pub value_behind_name : Option (List ℕ) → Option (Option (List ℕ))
value_behind_name None = None
value_behind_name (Some rest) = if length rest == 0 then Some None else option_map Some (value_behind (codes "=") rest)

-- the value in the word that names this option, if it has one there
abbrev pub value_in : Row → List ℕ → Option (Option (List ℕ))
value_in row word = value_behind_name (value_behind row.name word)

abbrev pub first_named : {A : Type 0} → Option A → Option A → Option A
first_named None other = other
first_named (Some x) other = Some x

-- the option that the word names, and the value in it, if it has one
abbrev pub named : List Row → List ℕ → Option (Row × Option (List ℕ))
named [] word = None
named (row ∷ rows) word = first_named (option_map (λ value. (row, value)) (value_in row word)) (named rows word)

abbrev pub by_name : Option (Row × Option (List ℕ)) → (List (Named × List ℕ) × End)
by_name None = ([], Unknown)
by_name (Some (row, None)) = if takes_value row then ([], Awaits (row, false)) else (((row, false), []) ∷ [], Whole)
by_name (Some (row, Some value)) = if takes_value row then (((row, false), value) ∷ [], Whole) else ([], Unknown)

abbrev pub named_options : List Row → List ℕ → (List (Named × List ℕ) × End)
named_options rows word = by_name (named rows word)

-- ---- words

abbrev pub behind_dash : List Row → Option (List ℕ) → (List (Named × List ℕ) × End)
behind_dash rows None = ([], Unknown)
behind_dash rows (Some rest) = letter_options rows rest

-- the options of a word that begins with a dash
abbrev pub word_options : List Row → List ℕ → (List (Named × List ℕ) × End)
word_options rows word = if is_some (value_behind (codes "--") word) then named_options rows word else behind_dash rows (value_behind (codes "-") word)

-- the options with their values and the operands, each in their order; or the first word that names no option; or the value of the
-- last option is missing
pub data Split : Type 0 where
  Given : List (Named × List ℕ) → List (List ℕ) → Split
  UnknownWord : List ℕ → Split
  Missing : Named → Split

-- these options and operands, and then those of the other words
abbrev pub before : List (Named × List ℕ) → List (List ℕ) → Split → Split
before options operands (Given others names) = Given (options ++ others) (operands ++ names)
before options operands (UnknownWord word) = UnknownWord word
before options operands (Missing option) = Missing option

-- the options of this word, and then the other words, where an option may await its value
abbrev pub by_end : List ℕ → (List (Named × List ℕ) × End) → (Option Named → Split) → Split
by_end word (options, Whole) others = before options [] (others None)
by_end word (options, Awaits option) others = before options [] (others (Some option))
by_end word (options, Unknown) others = UnknownWord word

-- what the words are, where the first may be the value of an option: `--` ends the options, which may stand behind operands
abbrev pub split_words : List Row → Option Named → List (List ℕ) → Split
split_words rows None [] = Given [] []
split_words rows (Some option) [] = Missing option
split_words rows (Some option) (value ∷ rest) = before ((option, value) ∷ []) [] (split_words rows None rest)
split_words rows None (word ∷ rest) =
    if bytes_eq word (codes "--") then Given [] rest
    else if is_option word then by_end word (word_options rows word) (λ awaited. split_words rows awaited rest)
    else before [] (word ∷ []) (split_words rows None rest)

-- the first two bytes are swapped, and the rest is the same
abbrev pub is_swapped : List ℕ → List ℕ → Bool
is_swapped (a ∷ b ∷ rest) (c ∷ d ∷ end) = (a == d) && ((b == c) && bytes_eq rest end)
is_swapped _ _ = false

-- from the first difference on, one insertion, deletion, replacement or swap of neighbours makes the name of the word
abbrev pub is_near : List ℕ → List ℕ → Bool
is_near [] name = nat_le (length name) 1
is_near (a ∷ rest) [] = nat_le (length (a ∷ rest)) 1
is_near (a ∷ rest) (b ∷ end) = if a == b then is_near rest end
    else bytes_eq rest end || (bytes_eq rest (b ∷ end) || (bytes_eq (a ∷ rest) end || is_swapped (a ∷ rest) (b ∷ end)))

-- the first name that is near the word
abbrev pub nearest : List ℕ → List (List ℕ) → Option (List ℕ)
nearest word [] = None
nearest word (name ∷ names) = if is_near word name then Some name else nearest word names

-- the suggestion of the nearest right word, if one is near
abbrev pub hint : Option (List ℕ) → List ℕ
hint None = []
hint (Some name) = codes "; did you mean '" ++ (name ++ codes "'?")

-- the end of the line, and the line that names the words for help
abbrev pub help_hint : List ℕ → List ℕ
help_hint help = codes "\nTry '" ++ (help ++ codes "'.\n")

-- the message of a word that names nothing of this kind, with a suggestion, as far as it depends on these
abbrev pub unknown_start : List ℕ → List ℕ → Option (List ℕ) → List ℕ
unknown_start kind word near = codes "pyver: no " ++ (kind ++ (codes " '" ++ (escaped word ++ (codes "'" ++ hint near))))

-- the message of a word that names nothing of this kind, with a suggestion
abbrev pub unknown_message : List ℕ → List ℕ → List (List ℕ) → List ℕ → List ℕ
unknown_message kind word names help = unknown_start kind word (nearest word names) ++ help_hint help

-- the values of an option, on a line of their own, if they are few
abbrev pub choices_text : List (List ℕ) → List ℕ
choices_text [] = []
choices_text (choice ∷ others) = codes "\nChoices:" ++ flat_map (λ c. codes " " ++ c) (choice ∷ others)

-- an option as it was typed: a dash and its letter, or its name
abbrev pub typed_name : Named → List ℕ
typed_name option = if option.1 then codes "-" ++ option.0.letter else option.0.name

-- the suggestion of the nearest right value, if one is near; or of what checks the files that are read no longer
abbrev pub value_hint : Named → List ℕ → List ℕ
value_hint option word =
    if bytes_eq option.0.name (codes "--format") && bytes_eq word (codes "pipfile") then codes "; 'pipenv verify' checks a Pipfile" else hint (nearest word option.0.choices)

-- the message of a word that is no value of the option
abbrev pub value_message : Named → List ℕ → List ℕ → List ℕ
value_message option word help =
    codes "pyver: " ++ (typed_name option ++ (codes " needs " ++ (option.0.value ++ (codes ", not '" ++ (escaped word ++ (codes "'" ++ (value_hint option word ++ (choices_text option.0.choices ++ help_hint help))))))))

-- the message of a Pipfile or its lock, which are not read
abbrev pub pipenv_message : List ℕ → List ℕ
pipenv_message word = codes "pyver: '" ++ (escaped word ++ codes "' is not read: 'pipenv verify' checks it\n")

-- the message of an option whose value is missing
abbrev pub missing_message : Named → List ℕ → List ℕ
missing_message option help = codes "pyver: " ++ (typed_name option ++ (codes " needs a value" ++ help_hint help))

-- the option that sets a number, and a space after it
abbrev pub to_text : Option ℕ → List ℕ
to_text None = []
to_text (Some number) = codes "--to " ++ (decimal number ++ codes " ")

-- the message of `bump` where the first word, with a digit as no part has, is followed by parts alone: the call with the version last
abbrev pub version_last_message : Option ℕ → List ℕ → List (List ℕ) → List ℕ
version_last_message to word rest = codes "pyver: the version comes last: pyver bump " ++ (to_text to ++ (flat_map (λ w. escaped w ++ codes " ") rest ++ (escaped word ++ codes "\n")))

-- the message of too few or too many words
abbrev pub usage_message : List ℕ → List ℕ → List ℕ
usage_message usage help = codes "pyver: usage: " ++ (usage ++ help_hint help)
