-- The records whose normalized form parses back to them: min and max are absent, and a string of the local part is written
-- as reading gives it (PEP 440, "Local version identifiers").
use Rattle.std.specs.Prelude.{◌≡◌, ℕ, ◌<◌, ◌||◌, Bool, true, false, length, None}
use Rattle.std.specs.Char.{is_ascii_digit, is_ascii_lowercase}
use Rattle.std.specs.List.{All, list_all}
use Rattle.pep440_version.specs.Grammar.{is_numeral}
use Rattle.pep440_version.specs.Record.{IsRecord, LocalSegmentValue, Number, Record, Text}

-- a digit or a lower-case letter
abbrev pub is_lower : ℕ → Bool
is_lower b = is_ascii_digit b || is_ascii_lowercase b

-- a number, or a string of lower-case ASCII letters and digits that does not parse as a number
abbrev pub SegmentRoundTrips : LocalSegmentValue → Type 0
SegmentRoundTrips (Text t) = (0 < length t) × (list_all is_lower t ≡ true) × (is_numeral t ≡ false)
SegmentRoundTrips (Number n) = Unit {0}

-- the normalized form of the record parses back to it
pub record RoundTrips (r : Record) : Type 0 where
  pub no_min : r.min ≡ None
  pub no_max : r.max ≡ None
  pub local : All SegmentRoundTrips r.local

-- the records that strings parse to
pub record IsParsed (r : Record) : Type 0 where
  pub valid : IsRecord r
  pub round_trips : RoundTrips r
