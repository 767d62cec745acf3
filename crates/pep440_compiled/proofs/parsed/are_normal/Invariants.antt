use Rattle.std.proofs.Common.{map, take}
use Rattle.std.specs.List.{All}
use Rattle.pep440_compiled.proofs.parsed.are_normal.Given as goal
use Rattle.pep440_version.specs.RoundTrip.{SegmentRoundTrips}
use Rattle.pep440_version.specs.Segments.{segment}

abbrev pub invariant-loop-part : goal.invariant-loop-part
invariant-loop-part l = All SegmentRoundTrips (map segment (take l.part-index l.local))
