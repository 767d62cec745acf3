use Rattle.std.proofs.Common.{◌≡◌, ◌++◌, length, map}
use Rattle.std.specs.List.{flat_map}
use Rattle.pep440_compiled.proofs.Loops.{Reads}
use Rattle.pep440_compiled.proofs.decode.read_local.Given as goal
use Rattle.pep440_keys.specs.SortKeys.{segment_bytes}
use Rattle.pep440_version.specs.Record.{LocalSegmentValue, SegmentFits}
use Rattle.pep440_version.specs.RoundTrip.{SegmentRoundTrips}
use Rattle.pep440_version.specs.Segments.{segment}

abbrev pub invariant-loop-first : goal.invariant-loop-first
invariant-loop-first l = record {
  reads : Reads (λ (s : LocalSegmentValue). SegmentFits s × SegmentRoundTrips s) segment_bytes l.fn.bytes (map segment l.segments.items) l.left;
  coded : l.fn.bytes ≡ flat_map segment_bytes (map segment l.segments.items) ++ l.left;
}

abbrev pub decreases-loop-first : goal.decreases-loop-first
decreases-loop-first l = length l.left
