use Rattle.std.proofs.Common.{◌≡◌, ◌≤◌, ◌-◌, length}
use denote.Text.{Utf8}
use denote.Shadow.{shadow}
use Rattle.pep440_version.specs.Reading.{parse_more_numbers, parse_release_from}
use Rattle.pep440_version.proofs.Reading.Digits.{with_prefix}
use Rattle.pep440_version.proofs.parse.number.parse_release_from.Given as goal

abbrev pub invariant-loop-round : goal.invariant-loop-round
invariant-loop-round l = shadow (Utf8 l.rest) × (length l.rest ≤ length l.text - l.round) × (with_prefix l.numbers (parse_more_numbers (length l.text - l.round) l.rest) ≡ parse_release_from l.first l.text)
