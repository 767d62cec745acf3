-- How the parts of a requirement are read, from the left: a second view of the grammar, which computes.
use Rattle.std.specs.Prelude.{ℕ, ◌==◌, List, [], ◌∷◌, ◌-◌, Option, Some, None, option_map, Result, Ok, Err, length, map, drop, if◌then◌else◌}
use Rattle.std.specs.Char.{is_ascii_whitespace}
use Rattle.std.specs.List.{list_all}
use Rattle.std.specs.Option.{option_map_or}
use Rattle.pep440_version.specs.Reading.{lead, past}
use Rattle.pep440_rs.specs.Lists.ListGrammar.{pieces}
use Rattle.pep440_pick.specs.Names.{is_name, is_name_byte}
use Rattle.pep440_rs.specs.Blanks.{opens, trim_blanks}
use Rattle.pep440_pick.specs.RequirementGrammar.{InvalidExtras, InvalidName, Marker, RequirementRejection, Specifiers, Unclosed, Url, has_byte}

-- the name, the extras, and the string of the list
pub record RequirementPrefix : Type 0 where
  pub name : List ℕ
  pub extras : List (List ℕ)
  pub list : List ℕ

-- what comes before the first such byte, and what after it
unfoldable pub split_at_byte : ℕ → List ℕ → Option (List ℕ × List ℕ)
split_at_byte b [] = None
split_at_byte b (x ∷ rest) = if x == b then Some ([], rest) else option_map (λ p. (x ∷ p.0, p.1)) (split_at_byte b rest)

-- the string without this byte at its end, if it ends with it
unfoldable pub without_end : ℕ → List ℕ → Option (List ℕ)
without_end b [] = None
without_end b (x ∷ []) = if x == b then Some [] else None
without_end b (x ∷ y ∷ rest) = option_map (λ t. x ∷ t) (without_end b (y ∷ rest))

-- what is between the commas, and nothing if there are only blanks
abbrev pub listed_extras : List ℕ → List (List ℕ)
listed_extras inside = if list_all is_ascii_whitespace inside then [] else map trim_blanks (pieces inside)

-- what stands in brackets, if each is a name
unfoldable pub extras_in : List ℕ → Option (List (List ℕ))
extras_in inside = if list_all is_name (listed_extras inside) then Some (listed_extras inside) else None

abbrev pub bracketed : Option (List ℕ × List ℕ) → Option (List (List ℕ) × List ℕ)
bracketed None = None
bracketed (Some p) = option_map (λ e. (e, p.1)) (extras_in p.0)

-- the extras at the start, and what follows
unfoldable pub extras_at : List ℕ → Option (List (List ℕ) × List ℕ)
extras_at text = if opens 91 text then bracketed (split_at_byte 93 (drop 1 text)) else Some ([], text)

-- the string of the list, of a string without blanks at its ends
abbrev pub list_in : List ℕ → Option (List ℕ)
list_in text = if opens 40 text then option_map trim_blanks (without_end 41 (drop 1 text)) else Some text

abbrev pub with_list : List ℕ → List (List ℕ) → Option (List ℕ) → Result RequirementPrefix RequirementRejection
with_list name extras None = Err Unclosed
with_list name extras (Some list) = Ok (record { name = name; extras = extras; list = list })

abbrev pub with_extras : List ℕ → Option (List (List ℕ) × List ℕ) → Result RequirementPrefix RequirementRejection
with_extras name None = Err InvalidExtras
with_extras name (Some p) = with_list name p.0 (list_in (trim_blanks p.1))

-- the name, and what follows it after blanks
unfoldable pub prefix_after_name : List ℕ → List ℕ → Result RequirementPrefix RequirementRejection
prefix_after_name name rest = if is_name name then with_extras name (extras_at rest) else Err InvalidName

-- the name of a string, and what follows it after blanks
abbrev pub name_of : List ℕ → List ℕ
name_of text = lead is_name_byte (past is_ascii_whitespace text)

abbrev pub behind_name : List ℕ → List ℕ
behind_name text = past is_ascii_whitespace (past is_name_byte (past is_ascii_whitespace text))

-- the parts of the string
abbrev pub read_prefix : List ℕ → Result RequirementPrefix RequirementRejection
read_prefix text = if has_byte 59 text then Err Marker else if has_byte 64 text then Err Url else prefix_after_name (name_of text) (behind_name text)

-- ---- the position of an error

-- what stands behind the name and its blanks, the extras and their blanks
abbrev pub behind_extras : List ℕ → List ℕ
behind_extras text = past is_ascii_whitespace (option_map_or (λ p. p.1) (extras_at (behind_name text)) [])

-- what stands behind a parenthesis at the start, and its blanks
abbrev pub in_parenthesis : List ℕ → List ℕ
in_parenthesis text = if opens 40 text then past is_ascii_whitespace (drop 1 text) else text

-- the byte at which the list begins
abbrev pub list_position : List ℕ → ℕ
list_position text = length text - length (in_parenthesis (behind_extras text))

-- the byte at which the string is invalid: that of the extras, of the parenthesis, or of the list; else the first
abbrev pub rejection_position : List ℕ → RequirementRejection → ℕ
rejection_position text InvalidExtras = length text - length (behind_name text)
rejection_position text Unclosed = length text - length (behind_extras text)
rejection_position text (Specifiers list f) = list_position text
rejection_position text _ = 0
