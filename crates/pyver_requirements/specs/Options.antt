-- Options of a line of a requirements file: their names, which Python's `optparse` lets be abbreviated, words and values, as Python's `shlex` splits them,
-- and why pip does not take them. What quotes, backslashes and variables stand for is not judged.
use Rattle.std.specs.Prelude.{ℕ, ◌==◌, ◌&&◌, ◌||◌, List, [], ◌∷◌, Bool, Option, Some, None, bytes_eq, codes, nat_eq, not, if◌then◌else◌, ◌-◌, true, false, drop, length, zero, suc, nat_lt, take}
use Rattle.std.specs.Char.{is_ascii_whitespace}
use Rattle.std.specs.List.{count_by, list_any, starts_with}
use Rattle.pep440_version.specs.Reading.{lead, past}
use Rattle.pyver_requirements.specs.declared.line_fault.LineFault.{LineFault}
use Rattle.pyver_requirements.specs.declared.line_fault.LineFault.TheVariants.{AmbiguousOption, UnknownOption, MissingValue, UnclosedQuote, UnwantedValue, WrongHash, WrongSetting}
use Rattle.pep440_rs.specs.Blanks.{trim_blanks, opens}
use Rattle.pyver_requirements.specs.LineParts.{before_byte, behind_byte, before_options, rest_of}
use Rattle.pyver_requirements.specs.declared.option_value.ShellState.{ShellState}
use Rattle.pyver_requirements.specs.declared.option_value.ShellState.TheVariants.{Double, Escaped, EscapedInDouble, Plain, Single}

-- the long options that pip 26.2 knows in a requirements file
abbrev pub long_options : List (List ℕ)
long_options = codes "--index-url" ∷ (codes "--pypi-url" ∷ (codes "--extra-index-url" ∷ (codes "--no-index" ∷ (codes "--constraint" ∷ (codes "--requirement"
    ∷ (codes "--editable" ∷ (codes "--find-links" ∷ (codes "--no-binary" ∷ (codes "--only-binary" ∷ (codes "--prefer-binary" ∷ (codes "--require-hashes"
    ∷ (codes "--no-require-hashes" ∷ (codes "--pre" ∷ (codes "--all-releases" ∷ (codes "--only-final" ∷ (codes "--trusted-host" ∷ (codes "--use-feature"
    ∷ (codes "--hash" ∷ (codes "--config-settings" ∷ [])))))))))))))))))))

-- those that take no value
abbrev pub flags : List (List ℕ)
flags = codes "--no-index" ∷ (codes "--prefer-binary" ∷ (codes "--require-hashes" ∷ (codes "--no-require-hashes" ∷ (codes "--pre" ∷ []))))

-- those whose value is a list of names
abbrev pub name_options : List (List ℕ)
name_options = codes "--no-binary" ∷ (codes "--only-binary" ∷ (codes "--all-releases" ∷ (codes "--only-final" ∷ [])))

-- those whose value is the path of a file
abbrev pub path_options : List (List ℕ)
path_options = codes "--requirement" ∷ (codes "--constraint" ∷ [])

-- how many of the long options begin so
abbrev pub count_options : List ℕ → ℕ
count_options name = count_by (λ option. starts_with nat_eq option name) long_options

-- the option has this name, or begins so while no other does
unfoldable pub names_option : List ℕ → List ℕ → Bool
names_option option name = bytes_eq option name || (starts_with nat_eq option name && (count_options name == 1))

-- this names one of the options
abbrev pub names_one_of : List (List ℕ) → List ℕ → Bool
names_one_of options name = list_any (λ option. names_option option name) options

-- no blank and no `=`
abbrev pub is_option_byte : ℕ → Bool
is_option_byte b = not (is_ascii_whitespace b || (b == 61))

-- the name of the long option that the line begins with
abbrev pub long_name : List ℕ → List ℕ
long_name text = lead is_option_byte text

-- what follows that name
abbrev pub behind_long_name : List ℕ → List ℕ
behind_long_name text = past is_option_byte text

-- a long option has this name
abbrev pub is_long_option : List ℕ → Bool
is_long_option name = list_any (λ option. bytes_eq option name) long_options

-- why this is not the name of a long option
abbrev pub long_fault : List ℕ → Option LineFault
long_fault name =
    if is_long_option name then None
    else if count_options name == 0 then Some UnknownOption
    else if count_options name == 1 then None
    else Some AmbiguousOption

-- the letter of an option: -i, -e, -r, -c, -f or -C; each takes a value
abbrev pub is_short_option : ℕ → Bool
is_short_option b = (b == 105) || ((b == 101) || ((b == 114) || ((b == 99) || ((b == 102) || (b == 67)))))

-- why this is not the name of a short option
abbrev pub short_fault : List ℕ → Option LineFault
short_fault (a ∷ (b ∷ rest)) = if is_short_option b then None else Some UnknownOption
short_fault _ = Some UnknownOption

-- why this is not the name of an option
unfoldable pub name_fault : List ℕ → Option LineFault
name_fault name = if starts_with nat_eq name (codes "--") then long_fault name else short_fault name

-- a single or a double quote
abbrev pub is_quote : ℕ → Bool
is_quote b = (b == 34) || (b == 39)

-- neither in quotes nor behind a backslash
abbrev pub is_plain : ShellState → Bool
is_plain Plain = true
is_plain _ = false

-- the state behind a byte: a backslash is one of the bytes in single quotes
abbrev pub next_state : ShellState → ℕ → ShellState
next_state Plain b = if b == 92 then Escaped else (if b == 39 then Single else (if b == 34 then Double else Plain))
next_state Escaped b = Plain
next_state Single b = if b == 39 then Plain else Single
next_state Double b = if b == 34 then Plain else (if b == 92 then EscapedInDouble else Double)
next_state EscapedInDouble b = Double

-- the string up to the first blank that stands in no quotes and behind no backslash
abbrev pub shell_word : ShellState → List ℕ → List ℕ
shell_word state [] = []
shell_word state (b ∷ rest) = if is_plain state && is_ascii_whitespace b then [] else b ∷ shell_word (next_state state b) rest

-- no quote is open at the end of the string, and no backslash stands there
abbrev pub closes : ShellState → List ℕ → Bool
closes state [] = is_plain state
closes state (b ∷ rest) = closes (next_state state b) rest

-- what stands between a quote and the next one, if the string ends there, and else the whole string
abbrev pub between_quotes : List ℕ → List ℕ → Option (List ℕ) → List ℕ
between_quotes word inside (Some []) = inside
between_quotes word inside behind = word

-- the word without its quotes, if it stands in them as a whole
abbrev pub without_quotes : List ℕ → List ℕ
without_quotes [] = []
without_quotes (b ∷ rest) = if is_quote b then between_quotes (b ∷ rest) (before_byte b rest) (behind_byte b rest) else b ∷ rest

-- the value that the string begins with
abbrev pub first_value : List ℕ → List ℕ
first_value text = without_quotes (shell_word Plain text)

-- the value of a long option, behind `=` or a blank
abbrev pub long_value : List ℕ → List ℕ
long_value [] = []
long_value (b ∷ rest) = if b == 61 then first_value rest else first_value (trim_blanks rest)

-- what stands from the value of a long option on, behind `=` or blanks
abbrev pub from_long_value : List ℕ → List ℕ
from_long_value [] = []
from_long_value (b ∷ rest) = if b == 61 then rest else past is_ascii_whitespace rest

-- what stands from the value on of the option that the line begins with
abbrev pub from_value : List ℕ → List ℕ
from_value text = if starts_with nat_eq text (codes "--") then from_long_value (behind_long_name text) else past is_ascii_whitespace (drop 2 text)

-- the column of that value, in bytes from 0
abbrev pub value_column : List ℕ → ℕ
value_column text = length text - length (from_value text)

-- ---- one word

-- a quote, a backslash or `$`
abbrev pub is_shell_byte : ℕ → Bool
is_shell_byte b = is_quote b || ((b == 92) || (b == 36))

-- the name of the option that the word is
abbrev pub option_name : List ℕ → List ℕ
option_name word = if starts_with nat_eq word (codes "--") then long_name word else take 2 word

-- what stands behind the name of a short option
abbrev pub short_value : List ℕ → Option (List ℕ)
short_value [] = None
short_value (b ∷ rest) = Some (b ∷ rest)

-- the value in the same word
abbrev pub word_value : List ℕ → Option (List ℕ)
word_value word = if starts_with nat_eq word (codes "--") then rest_of (behind_long_name word) else short_value (drop 2 word)

-- the digest of a hash that pip allows
abbrev pub is_strong_hash : List ℕ → Bool
is_strong_hash value = starts_with nat_eq value (codes "sha256:") || (starts_with nat_eq value (codes "sha384:") || starts_with nat_eq value (codes "sha512:"))

-- a word is wrong for this reason; the option awaits its value; the word is taken; it ends the options
pub data WordStep : Type 0 where
  Wrong : LineFault → WordStep
  Awaits : (name : List ℕ) → WordStep
  Taken : WordStep
  Ends : WordStep

-- this is so, or the fault is
abbrev pub taken_if : Bool → LineFault → WordStep
taken_if b f = if b then Taken else Wrong f

-- the option whose value is the path of a file
abbrev pub takes_path : List ℕ → Bool
takes_path name = names_one_of path_options name || (bytes_eq name (codes "-r") || bytes_eq name (codes "-c"))

-- the value of the option with this name
abbrev pub value_step : List ℕ → List ℕ → WordStep
value_step name value =
    if takes_path name then taken_if (not (length (without_quotes value) == 0)) MissingValue
    else if list_any is_shell_byte value then Taken
    else if names_option (codes "--hash") name then taken_if (is_strong_hash value) WrongHash
    else if names_option (codes "--config-settings") name || bytes_eq name (codes "-C") then taken_if (list_any (λ b. b == 61) value) WrongSetting
    else if names_one_of name_options name then taken_if (not (opens 45 value)) MissingValue
    else Taken

-- a flag, with this value in the same word
abbrev pub flag_step : Option (List ℕ) → WordStep
flag_step None = Taken
flag_step (Some value) = Wrong UnwantedValue

-- another option, with this value in the same word
abbrev pub given_step : List ℕ → Option (List ℕ) → WordStep
given_step name None = Awaits name
given_step name (Some value) = value_step name value

-- the option with this name
abbrev pub known_step : List ℕ → Option (List ℕ) → WordStep
known_step name value = if names_one_of flags name then flag_step value else given_step name value

abbrev pub named_step : List ℕ → Option (List ℕ) → Option LineFault → WordStep
named_step name value None = known_step name value
named_step name value (Some f) = Wrong f

-- a word that is no value
abbrev pub option_step : List ℕ → WordStep
option_step word =
    if bytes_eq word (codes "--") then Ends
    else if not (opens 45 word && nat_lt 1 (length word)) then Taken
    else if list_any is_shell_byte (option_name word) then Ends
    else named_step (option_name word) (word_value word) (name_fault (option_name word))

-- a word, which is the value of this option if one awaits its value
abbrev pub word_step : Option (List ℕ) → List ℕ → WordStep
word_step None word = option_step word
word_step (Some name) word = value_step name word

-- ---- all words

-- a word, and how many bytes there are from it on
pub record OptionWord : Type 0 where
  pub text : List ℕ
  pub left : ℕ

-- the words of the string without so many bytes at its start
unfoldable pub option_words : ℕ → List ℕ → List OptionWord
option_words skipped [] = []
option_words (suc skipped) (b ∷ rest) = option_words skipped rest
option_words zero (b ∷ rest) = if is_ascii_whitespace b then option_words 0 rest
    else record { text = shell_word Plain (b ∷ rest); left = length (b ∷ rest) } ∷ option_words (length (shell_word Plain (b ∷ rest)) - 1) rest

-- a fault, and how many bytes there are from it on
pub record FaultPosition : Type 0 where
  pub fault : LineFault
  pub left : ℕ

-- what comes of a step at a word with so many bytes from it on
abbrev pub step_fault : ℕ → WordStep → (Option (List ℕ) → Option FaultPosition) → Option FaultPosition
step_fault left (Wrong f) next = Some (record { fault = f; left = left })
step_fault left (Awaits name) next = next (Some name)
step_fault left Taken next = next None
step_fault left Ends next = None

-- the value is missing of the option that awaits one at the end
abbrev pub end_fault : Option (List ℕ) → Option FaultPosition
end_fault None = None
end_fault (Some name) = Some (record { fault = MissingValue; left = 0 })

-- the first fault of the words, of which the first is the value of this option if one awaits its value
unfoldable pub words_fault : Option (List ℕ) → List OptionWord → Option FaultPosition
words_fault awaited [] = end_fault awaited
words_fault awaited (w ∷ rest) = step_fault w.left (word_step awaited w.text) (λ next. words_fault next rest)

-- why pip does not take these options
abbrev pub options_fault : List ℕ → Option FaultPosition
options_fault text = if closes Plain text then words_fault None (option_words 0 text) else Some (record { fault = UnclosedQuote; left = length text })

-- the options of a line
abbrev pub options_in : List ℕ → List ℕ
options_in text = if opens 45 text then text else drop (length (before_options text)) text

-- ---- whether an option is among them

-- a word, which is the value of an option if one awaits its value
abbrev pub either_step : Bool → List ℕ → WordStep
either_step is_value word = if is_value then Taken else option_step word

-- whether what follows a word has it, by whether the next word is a value; pip reads no options behind one that is wrong
abbrev pub behind_step : WordStep → (Bool → Bool) → Bool
behind_step (Wrong f) next = false
behind_step (Awaits name) next = next true
behind_step Taken next = next false
behind_step Ends next = false

-- one of the words is the option with this long name, where the first may be a value
unfoldable pub is_among : List ℕ → Bool → List OptionWord → Bool
is_among option is_value [] = false
is_among option is_value (w ∷ rest) =
    (not is_value && names_option option (option_name w.text)) || behind_step (either_step is_value w.text) (λ next. is_among option next rest)

-- the options of the line have the one with this long name
abbrev pub has_option : List ℕ → List ℕ → Bool
has_option option text = is_among option false (option_words 0 (options_in text))

-- the options of the line have neither quotes nor backslashes nor `$`
abbrev pub has_plain_options : List ℕ → Bool
has_plain_options text = not (list_any is_shell_byte (options_in text))
