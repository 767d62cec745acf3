-- Strings of requirements: their names and extras, Poetry's lists of specifiers, and conditions of Poetry's entries as markers.
use Rattle.std.specs.Prelude.{ℕ, List, Bool, is_none, [], bytes_eq, codes, if◌then◌else◌, ◌&&◌, nat_lt, not, ◌++◌, Option, Some, None, ◌==◌, nat_eq, ◌||◌, count_by, ◌∷◌, map}
use Rattle.std.specs.List.{list_any, starts_with, list_all, slice_split}
use Rattle.std.specs.Option.{unwrap_or, option_map_or}
use Rattle.pep440_pick.specs.Names.{is_name_byte}
use Rattle.pep440_pick.specs.RequirementGrammar.{has_byte}
use Rattle.pep440_pick.specs.RequirementReading.{split_at_byte, behind_name, listed_extras}
use Rattle.pep440_version.specs.Changes.ChangeWords.{after}
use Rattle.pep440_version.specs.Grammar.{starts}
use Rattle.pep440_version.specs.Reading.{lead, past}
use Rattle.toml.specs.Data.{Data, get}
use Rattle.pyver_requirements.specs.MarkerTerms.{joined_terms}
use Rattle.pyver_requirements.specs.MarkerTokens.{is_operator_byte}

-- the value has nothing at the key
abbrev pub lacks : List ℕ → Data → Bool
lacks key d = is_none (get key d)

-- ---- Poetry's lists of specifiers

-- the list, where `*` excludes no version
abbrev pub plain_list : List ℕ → List ℕ
plain_list list = if bytes_eq list (codes "*") then [] else list

-- a digit from 1 to 9
abbrev pub is_counted : ℕ → Bool
is_counted b = nat_lt 48 b && nat_lt b 58

-- the number has no digit but 0
abbrev pub is_zero : List ℕ → Bool
is_zero number = not (list_any is_counted number)

-- the text up to the first such byte, and what follows this
abbrev pub cut_at : ℕ → List ℕ → List ℕ × List ℕ
cut_at b text = unwrap_or (split_at_byte b text) (text, [])

abbrev pub first_number : List ℕ → List ℕ
first_number version = (cut_at 46 version).0

-- the first number, and if it is 0 what is kept of those after it
abbrev pub past_zero : (List ℕ → List ℕ) → Option (List ℕ × List ℕ) → List ℕ → List ℕ
past_zero keep None version = version
past_zero keep (Some p) version = if is_zero p.0 then p.0 ++ (codes "." ++ keep p.1) else p.0

-- of these numbers up to the first that is not 0, at most two
abbrev pub later_numbers : List ℕ → List ℕ
later_numbers version = past_zero first_number (split_at_byte 46 version) version

-- the numbers that a caret keeps of a version: up to the first that is not 0, at most three
abbrev pub caret_numbers : List ℕ → List ℕ
caret_numbers version = past_zero later_numbers (split_at_byte 46 version) version

-- the numbers that a tilde keeps: the first two
abbrev pub tilde_numbers : List ℕ → List ℕ
tilde_numbers version = option_map_or (λ p. p.0 ++ (codes "." ++ first_number p.1)) (split_at_byte 46 version) version

-- the versions from this one on that begin with these numbers, and what else the list asks
abbrev pub kept_list : List ℕ → List ℕ → List ℕ → List ℕ
kept_list version numbers others = codes ">=" ++ (version ++ (codes ",==" ++ (numbers ++ (codes ".*" ++ others))))

-- the list from the first comma on
abbrev pub from_comma : List ℕ → List ℕ
from_comma list = option_map_or (λ p. codes "," ++ p.1) (split_at_byte 44 list) []

-- what begins with a version stands for those from it on that begin with what is kept of it
abbrev pub list_keeping : (List ℕ → List ℕ) → List ℕ → List ℕ
list_keeping keep list = kept_list (cut_at 44 list).0 (keep (cut_at 44 list).0) (from_comma list)

-- a version by itself is this one
abbrev pub bare_list : List ℕ → List ℕ
bare_list list = if starts (λ b. nat_lt 47 b && nat_lt b 58) list then codes "==" ++ list else plain_list list

-- a list that does not begin with a caret
abbrev pub tilde_list : List ℕ → List ℕ
tilde_list list = if starts_with nat_eq list (codes "~=") then list else option_map_or (list_keeping tilde_numbers) (after (codes "~") list) (bare_list list)

-- the list of PEP 440 that a list of Poetry stands for: `^1.2` and `~1.2` are versions from that one on that begin with some of its numbers
-- ("Dependency specification" of Poetry). What has no such list stays, and is none
abbrev pub poetry_list : List ℕ → List ℕ
poetry_list list = option_map_or (list_keeping caret_numbers) (after (codes "^") list) (tilde_list list)

-- ---- conditions of Poetry's entries, as markers

-- a byte of a version, of `.*` or of the name of a platform
abbrev pub is_value_byte : ℕ → Bool
is_value_byte b = is_name_byte b || b == 42

-- the string in quotes. What is no version and no platform has none, and makes no marker
abbrev pub quoted_value : List ℕ → List ℕ
quoted_value text = if starts is_value_byte text && list_all is_value_byte text then codes "\"" ++ (text ++ codes "\"") else text

-- what follows the blank that the string begins with, or all
abbrev pub past_blank : List ℕ → List ℕ
past_blank text = unwrap_or (after (codes " ") text) text

-- the variable, compared with what the operator of a specifier leads to
abbrev pub specifier_comparison : List ℕ → List ℕ → List ℕ
specifier_comparison variable specifier = variable ++ (codes " " ++ (lead is_operator_byte specifier ++ (codes " " ++ quoted_value (past_blank (past is_operator_byte specifier)))))

-- the version is each Python that begins with its two numbers, unless it has a third or `.*`
abbrev pub is_python_pair : List ℕ → Bool
is_python_pair specifier = starts_with nat_eq specifier (codes "==") && (nat_lt (count_by (λ b. b == 46) specifier) 2 && not (has_byte 42 specifier))

abbrev pub python_variable : List ℕ → List ℕ
python_variable specifier = if is_python_pair specifier then codes "python_version" else codes "python_full_version"

-- the Python is one that the specifier contains
abbrev pub python_comparison : List ℕ → List ℕ
python_comparison specifier = specifier_comparison (python_variable (past_blank specifier)) (past_blank specifier)

-- the Python is one that the list contains, if it excludes any
abbrev pub python_marker : List ℕ → List ℕ
python_marker [] = []
python_marker (b ∷ list) = joined_terms (codes " and ") (map python_comparison (slice_split (λ x. x == 44) (b ∷ list)))

-- a platform by itself is this one
abbrev pub platform_specifier : List ℕ → List ℕ
platform_specifier platform = if starts is_operator_byte platform then platform else codes "==" ++ platform

abbrev pub platform_comparison : List ℕ → List ℕ
platform_comparison [] = []
platform_comparison (b ∷ platform) = specifier_comparison (codes "sys_platform") (platform_specifier (b ∷ platform))

-- the platform is this one, if that is not `*`
abbrev pub platform_marker : List ℕ → List ℕ
platform_marker platform = platform_comparison (plain_list platform)

-- both markers hold, where none always does
abbrev pub both_markers : List ℕ → List ℕ → List ℕ
both_markers [] other = other
both_markers (b ∷ marker) [] = b ∷ marker
both_markers (b ∷ marker) (c ∷ other) = codes "(" ++ ((b ∷ marker) ++ (codes ") and (" ++ ((c ∷ other) ++ codes ")")))

-- the requirement under the marker, if there is one
abbrev pub marked_text : List ℕ → List ℕ → List ℕ
marked_text requirement [] = requirement
marked_text requirement (b ∷ marker) = requirement ++ (codes "; " ++ (b ∷ marker))

-- the extras, in brackets, if there are some
abbrev pub extras_text : List (List ℕ) → List ℕ
extras_text [] = []
extras_text (e ∷ extras) = codes "[" ++ (joined_terms (codes ",") (e ∷ extras) ++ codes "]")

-- a name, and a list if that is not empty
abbrev pub requirement_text : List ℕ → List ℕ → List ℕ
requirement_text name [] = name
requirement_text name (b ∷ list) = name ++ (codes " " ++ (b ∷ list))

-- what stands in the brackets with which this begins
abbrev pub in_brackets : List ℕ → List ℕ
in_brackets rest = option_map_or (λ inner. (option_map_or (λ p. p.0) (split_at_byte 93 inner) [])) (after (codes "[") rest) []

-- the extras behind the name that a string begins with (PEP 508, "Extras")
abbrev pub string_extras : List ℕ → List (List ℕ)
string_extras text = listed_extras (in_brackets (behind_name text))

-- the string has a marker or a URL
abbrev pub is_conditional : List ℕ → Bool
is_conditional text = has_byte 59 text || has_byte 64 text
