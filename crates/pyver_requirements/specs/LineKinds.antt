-- What a logical line of a requirements file is (pip, "Requirements File Format"), or a mark of a merge conflict, which version control leaves there; and
-- lines and their parts, apart from their address in memory.
use Rattle.std.specs.Prelude.{ℕ, ◌==◌, ◌&&◌, ◌||◌, List, [], ◌∷◌, Bool, true, false, ◌-◌, Option, Some, None, codes, drop, length, nat_eq, not, if◌then◌else◌, ◌++◌, map, option_map}
use Rattle.std.specs.Char.{is_ascii_whitespace, eq_ignore_ascii_case, is_ascii_digit, is_ascii_uppercase}
use Rattle.std.specs.List.{prefix_len, ends_with, list_any, starts_with}
use Rattle.pep440_version.specs.Reading.{past, lead}
use Rattle.std.specs.Option.{option_map_or}
use Rattle.pep440_rs.specs.Blanks.{opens, trim_blanks}
use Rattle.pep440_version.specs.Grammar.{starts}
use Rattle.pyver_requirements.specs.LogicalLines.{is_utf16, Line, filled, joined_from, prefixed}
use Rattle.pyver_requirements.specs.Options.{FaultPosition, options_fault, options_in, behind_long_name, long_name, names_option, first_value, long_value, Awaits, Ends, Taken, WordStep, Wrong}
use Rattle.pyver_requirements.specs.declared.line_fault.LineFault.{LineFault}
use Rattle.pyver_requirements.specs.declared.line_fault.LineFault.TheVariants.{ConflictMark, Utf16}
use Rattle.pyver_requirements.specs.LineParts.{LineParts}
use Rattle.pyver_requirements.specs.declared.line_kind.LineKind.{LineKind as LineKindValue}
use Rattle.pyver_requirements.specs.declared.line_parts.LineParts.{LineParts as LinePartsValue}
use Rattle.pyver_requirements.specs.declared.logical_line.LogicalLine.{LogicalLine}
use Rattle.pyver_requirements.specs.declared.logical_line.LineJoiner.{LineJoiner}
use Rattle.pyver_requirements.specs.declared.option_fault.FaultPosition.{FaultPosition as FaultPositionValue}
use Rattle.pyver_requirements.specs.declared.option_fault.WordStep.{WordStep as WordStepValue}
use Rattle.pyver_requirements.specs.declared.line_kind.LineKind.TheVariants as kind
use Rattle.pyver_requirements.specs.declared.option_fault.WordStep.TheVariants as step

-- `<`, `=`, `>` and `|`
abbrev pub is_mark_byte : ℕ → Bool
is_mark_byte b = (b == 60) || ((b == 61) || ((b == 62) || (b == 124)))

-- the string is empty or begins with a blank
abbrev pub ends_word : List ℕ → Bool
ends_word [] = true
ends_word (b ∷ rest) = is_ascii_whitespace b

-- the line begins with seven times one of these bytes, as a word
abbrev pub is_conflict_mark : List ℕ → Bool
is_conflict_mark [] = false
is_conflict_mark (b ∷ rest) = is_mark_byte b && ((prefix_len (λ c. c == b) (b ∷ rest) == 7) && ends_word (past (λ c. c == b) (b ∷ rest)))

-- another file of requirements, and one of constraints, each with its path; neither a requirement nor an option, with the column; an editable;
-- another option of pip; a line with a variable; a URL, a path or an archive; a requirement
pub data LineKind : Type 0 where
  RequirementsFile : (path : List ℕ) → LineKind
  ConstraintsFile : (path : List ℕ) → LineKind
  Invalid : LineFault → (column : ℕ) → LineKind
  Editable : LineKind
  PipOption : LineKind
  Variable : LineKind
  Location : LineKind
  Requirement : LineKind

-- ---- options

-- the value of this long option, if the line begins with it
abbrev pub long_option_value : List ℕ → List ℕ → Option (List ℕ)
long_option_value option text = if names_option option (long_name text) then Some (long_value (behind_long_name text)) else None

-- the value of the option with this long and this short name, if the line begins with one of them
abbrev pub option_value : List ℕ → List ℕ → List ℕ → Option (List ℕ)
option_value option short text = if starts_with nat_eq text (codes "--") then long_option_value option text
    else (if starts_with nat_eq text short then Some (first_value (trim_blanks (drop (length short) text))) else None)

-- what a line is that begins with `-`
abbrev pub option_kind : List ℕ → LineKind
option_kind text = option_map_or RequirementsFile (option_value (codes "--requirement") (codes "-r") text)
    (option_map_or ConstraintsFile (option_value (codes "--constraint") (codes "-c") text)
    (option_map_or (λ _. Editable) (option_value (codes "--editable") (codes "-e") text) PipOption))

-- ---- variables

-- A to Z, 0 to 9 and `_`
abbrev pub is_variable_byte : ℕ → Bool
is_variable_byte b = is_ascii_uppercase b || (is_ascii_digit b || (b == 95))

-- the string begins with one or more of these, and a `}` follows
abbrev pub closes_variable : List ℕ → Bool
closes_variable text = starts is_variable_byte text && opens 125 (past is_variable_byte text)

-- the string begins with `${`, a name and `}`
abbrev pub opens_variable : List ℕ → Bool
opens_variable (a ∷ b ∷ rest) = (a == 36) && ((b == 123) && closes_variable rest)
opens_variable text = false

-- a variable stands somewhere in the string
abbrev pub has_variable : List ℕ → Bool
has_variable [] = false
has_variable (b ∷ rest) = opens_variable (b ∷ rest) || has_variable rest

-- ---- URLs, paths and archives

-- the bytes up to the first blank, `;` or `@`
abbrev pub first_word : List ℕ → List ℕ
first_word text = lead (λ b. not (is_ascii_whitespace b || ((b == 59) || (b == 64)))) text

-- the endings of tar archives that name their compression, or have none
abbrev pub tar_endings : List (List ℕ)
tar_endings = codes ".tar" ∷ (codes ".tar.gz" ∷ (codes ".tar.bz2" ∷ (codes ".tar.xz" ∷ (codes ".tar.lz" ∷ (codes ".tar.lzma" ∷ [])))))

-- the endings of wheels, of zip archives, and the short ones of tar archives
abbrev pub short_endings : List (List ℕ)
short_endings = codes ".whl" ∷ (codes ".zip" ∷ (codes ".tgz" ∷ (codes ".tbz" ∷ (codes ".txz" ∷ (codes ".tlz" ∷ [])))))

-- the word has one of these endings, in any case
abbrev pub ends_as : List (List ℕ) → List ℕ → Bool
ends_as endings word = list_any (λ ending. ends_with eq_ignore_ascii_case word ending) endings

abbrev pub is_archive : List ℕ → Bool
is_archive word = ends_as short_endings word || ends_as tar_endings word

-- the word begins with `.`, or has a `/`, or ends as an archive
abbrev pub is_location : List ℕ → Bool
is_location word = opens 46 word || (list_any (λ b. b == 47) word || is_archive word)

-- ---- all together

-- a line without a fault: the first of these that holds
abbrev pub right_kind : List ℕ → LineKind
right_kind text =
    if opens 45 text then option_kind text
    else if has_variable text then Variable
    else if is_location (first_word text) then Location
    else Requirement

-- the kind, unless there is a fault
abbrev pub unless_fault : List ℕ → Option FaultPosition → LineKind → LineKind
unless_fault text None kind = kind
unless_fault text (Some m) kind = Invalid m.fault (length text - m.left)

-- what the line is: the first of these that holds
abbrev pub line_kind : List ℕ → LineKind
line_kind text =
    if is_conflict_mark text then Invalid ConflictMark 0
    else if is_utf16 text then Invalid Utf16 0
    else unless_fault text (options_fault (options_in text)) (right_kind text)

abbrev pub logical_line_of : LogicalLine → Line
logical_line_of l = record { number = l.number; text = l.text.items; comment = l.comment.items }

-- the lines so far, and those that come of the one that has begun and of these physical lines
abbrev pub lines_with : LineJoiner → List (List ℕ) → List Line
lines_with joiner rest = map logical_line_of joiner.lines.items ++ filled (prefixed joiner.first joiner.text.items (joined_from joiner.next rest))

abbrev pub line_kind_of : LineKindValue → LineKind
line_kind_of (kind.RequirementsFile path) = RequirementsFile path.now
line_kind_of (kind.ConstraintsFile path) = ConstraintsFile path.now
line_kind_of (kind.Invalid fault column) = Invalid fault column
line_kind_of kind.Editable = Editable
line_kind_of kind.PipOption = PipOption
line_kind_of kind.Variable = Variable
line_kind_of kind.Location = Location
line_kind_of kind.Requirement = Requirement

abbrev pub line_parts_of : LinePartsValue → LineParts
line_parts_of p = record { text = p.text.now; requirement = p.requirement.now; url = option_map (λ x. x.now) p.url; marker = option_map (λ x. x.now) p.marker }

abbrev pub fault_position_of : FaultPositionValue → FaultPosition
fault_position_of m = record { fault = m.fault; left = m.left }

abbrev pub word_step_of : WordStepValue → WordStep
word_step_of (step.Wrong fault) = Wrong fault
word_step_of (step.Awaits name) = Awaits name.now
word_step_of step.Taken = Taken
word_step_of step.Ends = Ends
