use Rattle.std.proofs.Common.{◌≡◌, ◌-◌, length, map}
use denote.Text.{Utf8}
use denote.Shadow.{shadow}
use Rattle.pep440_version.specs.Locals.{parse_segments}
use Rattle.pep440_version.specs.Segments.{segment}
use Rattle.pep440_version.proofs.Reading.LocalAgrees.{with_segments}
use Rattle.pep440_version.proofs.parse.local.parse_segments.Given as goal

abbrev pub invariant-loop-round : goal.invariant-loop-round
invariant-loop-round l = shadow (Utf8 l.rest) × (with_segments (map segment l.segments.items) (parse_segments (length l.text - l.round) l.precursor l.rest) ≡ parse_segments (length l.text) 43 l.text)
