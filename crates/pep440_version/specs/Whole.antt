-- How a whole string is parsed, from the left: as a pattern, and as a version.
use Rattle.std.specs.Char.{is_ascii_whitespace}
use Rattle.std.specs.Prelude.{ℕ, ◌-◌, ◌==◌, ◌&&◌, Bool, true, false, List, length, take, drop, Result, Ok, Err, None, if◌then◌else◌}
use Rattle.pep440_version.specs.Grammar.{starts}
use Rattle.pep440_version.specs.Locals.{parse_local}
use Rattle.pep440_version.specs.Reading.{Read, ◌>>=◌, past, skip_v, starts_with_number, parse_number, parse_release, parse_release_from}
use Rattle.pep440_version.specs.Record.{Record, epoch_and_release}
use Rattle.pep440_version.specs.Rejections.{Wildcard, NoLeadingNumber, NoLeadingReleaseNumber, UnexpectedEnd, WildcardNotTrailing, OfVersion, PatternRejection}
use Rattle.pep440_version.specs.Suffixes.{parse_pre, parse_post, parse_dev}

-- the leading release, after an epoch
abbrev pub parse_release_after_epoch : ℕ → List ℕ → Read ((ℕ × List ℕ) × List ℕ)
parse_release_after_epoch epoch text = parse_release (length text) text >>= λ x. Ok ((epoch, x.0), x.1)

-- the leading epoch and release
unfoldable pub parse_epoch_and_release : List ℕ → Read ((ℕ × List ℕ) × List ℕ)
parse_epoch_and_release text =
    if starts_with_number text then (parse_number text >>= λ n.
    if starts (λ b. b == 33) n.1 then (if starts_with_number (drop 1 n.1) then parse_release_after_epoch n.0 (drop 1 n.1) else Err NoLeadingReleaseNumber)
    else parse_release_after_epoch 0 text)
    else Err NoLeadingNumber

-- blanks, the letter v, epoch and release
abbrev pub parse_through_release : List ℕ → Read ((ℕ × List ℕ) × List ℕ)
parse_through_release text = parse_epoch_and_release (skip_v (past is_ascii_whitespace text))

-- the parts after the release
unfoldable pub parse_parts : ℕ → List ℕ → List ℕ → Read (Record × List ℕ)
parse_parts epoch release text = parse_pre text >>= λ p. parse_post p.1 >>= λ q. parse_dev q.1 >>= λ d. parse_local d.1 >>= λ l.
    Ok (record { epoch = epoch; release = release; pre = p.0; post = q.0; dev = d.0; local = l.0; min = None; max = None }, l.1)

-- the blanks at the end of the string, after the parts
abbrev pub parse_end : List ℕ → Record × List ℕ → Read Record
parse_end text x =
    if length (past is_ascii_whitespace x.1) == 0 then Ok x.0
    else Err (UnexpectedEnd (take (length text - length (past is_ascii_whitespace x.1)) text) (past is_ascii_whitespace x.1))

-- a release is read, and what follows it has no star
abbrev pub parse_after_release : List ℕ → (ℕ × List ℕ) × List ℕ → Read Record
parse_after_release text x = parse_parts x.0.0 x.0.1 x.1 >>= parse_end text

-- the string begins with `.*`
abbrev pub starts_with_star : List ℕ → Bool
starts_with_star text = starts (λ b. b == 46) text && starts (λ b. b == 42) (drop 1 text)

-- a version, as a pattern
abbrev pub without_star : Read Record → Result (Record × Bool) PatternRejection
without_star (Ok r) = Ok (r, false)
without_star (Err f) = Err (OfVersion f)

-- from the end of the release on
abbrev pub pattern_from : List ℕ → Read ((ℕ × List ℕ) × List ℕ) → Result (Record × Bool) PatternRejection
pattern_from text (Err f) = Err (OfVersion f)
pattern_from text (Ok x) =
    if starts_with_star x.1 then (if length (drop 2 x.1) == 0 then Ok (epoch_and_release x.0.0 x.0.1, true) else Err WildcardNotTrailing)
    else without_star (parse_after_release text x)

-- what the string parses to: a record, and whether a star follows
abbrev pub read_pattern : List ℕ → Result (Record × Bool) PatternRejection
read_pattern text = pattern_from text (parse_through_release text)

-- the version that a pattern is; a star is rejected
abbrev pub version_of : Result (Record × Bool) PatternRejection → Read Record
version_of (Ok x) = if x.1 then Err Wildcard else Ok x.0
version_of (Err (OfVersion f)) = Err f
version_of (Err WildcardNotTrailing) = Err Wildcard

-- a version is a pattern without star
abbrev pub read_version : List ℕ → Read Record
read_version text = version_of (read_pattern text)

-- ---- a release in turn, as the code reads it

-- epoch and release, after the first number
abbrev pub parse_release_after_first : ℕ → ℕ → List ℕ → Read ((ℕ × List ℕ) × List ℕ)
parse_release_after_first epoch first text = parse_release_from first text >>= λ x. Ok ((epoch, x.0), x.1)
