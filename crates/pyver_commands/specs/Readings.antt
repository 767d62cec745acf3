-- What a string is read as: a version, or invalid for a reason; and numbers that words write.
use Rattle.std.specs.Prelude.{◌≡◌, ℕ, List, ◌^◌, ◌&&◌, Bool, Option, Some, None, length, nat_lt, if◌then◌else◌}
use Rattle.pep440_version.specs.ErrorTexts.{rejection_text}
use Rattle.pep440_version.specs.Grammar.{Derives}
use Rattle.pep440_version.specs.Record.{Record}
use Rattle.pep440_version.specs.Rejections.{Rejection, Rejects}
use Rattle.cli_io.specs.Runs.{Outcome}
use Rattle.pyver_commands.specs.Outcomes.{fault, no_outcome}
use Rattle.std.specs.Char.{is_ascii_digit}
use Rattle.std.specs.List.{list_all}
use Rattle.std.specs.Str.Parse.{digits_value}

-- a version, or the message of an invalid one
pub data Reading : Type 0 where
  Denotes : Record → Reading
  Fails : List ℕ → Reading

-- the string denotes this version, or is invalid with this message
abbrev pub Reads : List ℕ → Reading → Type 0
Reads text (Denotes r) = Derives text r
Reads text (Fails reason) = (f : Rejection) × Rejects text f × (reason ≡ rejection_text f)

-- the outcome of an invalid word; nothing for a valid one
abbrev pub reading_fault : List ℕ → Reading → Outcome
reading_fault word (Denotes r) = no_outcome
reading_fault word (Fails reason) = fault word reason

-- one or more digits
abbrev pub are_digits : List ℕ → Bool
are_digits text = nat_lt 0 (length text) && list_all is_ascii_digit text

-- one or more digits, zeros may lead, with a value that fits
abbrev pub word_number : List ℕ → Option ℕ
word_number text = if are_digits text && nat_lt (digits_value 10 text) (2 ^ 64) then Some (digits_value 10 text) else None
