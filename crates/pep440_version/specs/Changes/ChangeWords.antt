-- The change that a word denotes: a field, `=` and the field's new value, or one of two words without a value.
use Rattle.std.specs.Prelude.{ℕ, ◌^◌, ◌==◌, ◌&&◌, ◌++◌, List, [], ◌∷◌, Bool, length, drop, codes, bytes_eq, nat_lt, Option, Some, None, option_and_then, if◌then◌else◌}
use Rattle.std.specs.Fmt.{decimal}
use Rattle.std.specs.Option.{option_map, option_or}
use Rattle.std.specs.Char.{is_ascii_digit, is_ascii_alphanumeric}
use Rattle.std.specs.List.{list_all, position_or_len, before_first, after_first, slice_split, starts_with}
use Rattle.std.specs.Prelude.{nat_eq}
use Rattle.std.specs.Str.Parse.{digits_value}
use Rattle.pep440_version.specs.declared.prerelease.PrereleaseKind.{PrereleaseKind}
use Rattle.pep440_version.specs.declared.prerelease.PrereleaseKind.TheVariants.{Alpha, Beta, Rc}
use Rattle.pep440_version.specs.declared.prerelease.Prerelease.{Prerelease}
use Rattle.pep440_version.specs.Changes.{Edit, Release, Epoch, Pre, Post, Dev, Local, WithoutLocal, OnlyRelease, Min, Max}
use Rattle.pep440_version.specs.Grammar.{parse_segment}
use Rattle.pep440_version.specs.Record.{LocalSegmentValue}

-- one or more bytes that pass the test
abbrev pub is_run : (ℕ → Bool) → List ℕ → Bool
is_run test text = nat_lt 0 (length text) && list_all test text

-- one or more digits, with leading zeros or without, whose value is below 2^64
abbrev pub number_of : List ℕ → Option ℕ
number_of text = if is_run is_ascii_digit text && nat_lt (digits_value 10 text) (2 ^ 64) then Some (digits_value 10 text) else None

-- one or more ASCII letters and digits: a number if they are digits whose value fits, else a string in lower case
abbrev pub local_segment_of : List ℕ → Option LocalSegmentValue
local_segment_of text = if is_run is_ascii_alphanumeric text then Some (parse_segment text) else None

-- what follows the prefix, if the string has it
abbrev pub after : List ℕ → List ℕ → Option (List ℕ)
after spelling text = if starts_with nat_eq text spelling then Some (drop (length spelling) text) else None

-- the spelling of a kind, then a number
abbrev pub parse_prerelease_of_kind : PrereleaseKind → List ℕ → List ℕ → Option Prerelease
parse_prerelease_of_kind kind spelling text = option_map (λ n. record { kind = kind; number = n }) (option_and_then number_of (after spelling text))

-- `a`, `b` or `rc`, then a number
abbrev pub prerelease_of : List ℕ → Option Prerelease
prerelease_of text = option_or (parse_prerelease_of_kind Alpha (codes "a") text) (option_or (parse_prerelease_of_kind Beta (codes "b") text) (parse_prerelease_of_kind Rc (codes "rc") text))

-- the empty string for None, else a value
abbrev pub or_none : {A : Type 0} → (List ℕ → Option A) → List ℕ → Option (Option A)
or_none read text = if length text == 0 then Some None else option_map Some (read text)

-- the values of all items, if each item has one
abbrev pub all_of : {X A : Type 0} → (X → Option A) → List X → Option (List A)
all_of read [] = Some []
all_of read (x ∷ rest) = option_and_then (λ a. option_map (λ others. a ∷ others) (all_of read rest)) (read x)

-- the pieces between the dots; the empty string has none
abbrev pub pieces_of : List ℕ → List (List ℕ)
pieces_of text = if length text == 0 then [] else slice_split (λ b. b == 46) text

-- items joined by `.`, or the empty string
abbrev pub dotted_of : {A : Type 0} → (List ℕ → Option A) → List ℕ → Option (List A)
dotted_of read text = all_of read (pieces_of text)

-- the change that gives a field the value of the string
abbrev pub field_change : List ℕ → List ℕ → Option Edit
field_change field value =
    if bytes_eq field (codes "release") then option_map Release (dotted_of number_of value)
    else if bytes_eq field (codes "epoch") then option_map Epoch (number_of value)
    else if bytes_eq field (codes "pre") then option_map Pre (or_none prerelease_of value)
    else if bytes_eq field (codes "post") then option_map Post (or_none number_of value)
    else if bytes_eq field (codes "dev") then option_map Dev (or_none number_of value)
    else if bytes_eq field (codes "local") then option_map Local (dotted_of local_segment_of value)
    else if bytes_eq field (codes "min") then option_map Min (or_none number_of value)
    else if bytes_eq field (codes "max") then option_map Max (or_none number_of value)
    else None

-- a word with no `=`
abbrev pub bare_change : List ℕ → Option Edit
bare_change word =
    if bytes_eq word (codes "only-release") then Some OnlyRelease
    else if bytes_eq word (codes "without-local") then Some WithoutLocal
    else None

-- the byte `=`
abbrev pub is_equals : ℕ → Bool
is_equals b = b == 61

-- the change of a word, split at its first `=` if it has one
abbrev pub change_of : List ℕ → Option Edit
change_of word = if nat_lt (position_or_len is_equals word) (length word) then field_change (before_first is_equals word) (after_first is_equals word) else bare_change word

-- the message of a word that is no change, with its number
abbrev pub not_a_change_text : ℕ → List ℕ
not_a_change_text number = codes "change " ++ (decimal number ++ codes ": not a change")
