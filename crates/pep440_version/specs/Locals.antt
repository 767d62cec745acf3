-- How a local version is read, from the left.
use Rattle.std.specs.Prelude.{ℕ, zero, suc, ◌==◌, Bool, List, [], ◌∷◌, length, drop, Ok, Err, if◌then◌else◌}
use Rattle.std.specs.Char.{is_ascii_alphanumeric}
use Rattle.pep440_version.specs.Grammar.{is_separator, parse_segment, starts}
use Rattle.pep440_version.specs.Reading.{Read, ◌>>=◌, lead, past}
use Rattle.pep440_version.specs.Record.{LocalSegmentValue}
use Rattle.pep440_version.specs.Rejections.{LocalEmpty}

-- the first byte
abbrev pub first_byte : List ℕ → ℕ
first_byte [] = 0
first_byte (b ∷ rest) = b

-- the leading segments, at most as many as the first argument; c is the byte that they follow
unfoldable pub parse_segments : ℕ → ℕ → List ℕ → Read (List LocalSegmentValue × List ℕ)
parse_segments zero c text = Err (LocalEmpty c)
parse_segments (suc more) c text =
    if starts is_ascii_alphanumeric text then
    (if starts is_separator (past is_ascii_alphanumeric text) then
    (parse_segments more (first_byte (past is_ascii_alphanumeric text)) (drop 1 (past is_ascii_alphanumeric text))
    >>= λ rest. Ok (parse_segment (lead is_ascii_alphanumeric text) ∷ rest.0, rest.1))
    else Ok (parse_segment (lead is_ascii_alphanumeric text) ∷ [], past is_ascii_alphanumeric text))
    else Err (LocalEmpty c)

abbrev pub starts_local : List ℕ → Bool
starts_local text = starts (λ b. b == 43) text

-- `+` and segments, or nothing
abbrev pub parse_local : List ℕ → Read (List LocalSegmentValue × List ℕ)
parse_local text = if starts_local text then parse_segments (length (drop 1 text)) 43 (drop 1 text) else Ok ([], text)
