use Rattle.std.proofs.Common.{◌≡◌, map, take}
use Rattle.pep440_version.specs.Segments.{segment}
use Rattle.pep440_sets.proofs.witness.copy_segments.Given as goal

abbrev pub invariant-loop-segment : goal.invariant-loop-segment
invariant-loop-segment l = map segment l.copies.items ≡ map segment (take l.segment-index l.local)
