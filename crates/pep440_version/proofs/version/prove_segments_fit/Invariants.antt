use Rattle.std.proofs.Common.{◌<◌, ℕ, map, slice_index_or}
use Rattle.pep440_version.specs.Record.{LocalSegmentValue, SegmentFits}
use Rattle.pep440_version.specs.Segments.{segment}
use Rattle.pep440_version.proofs.version.prove_segments_fit.Given as goal

abbrev pub invariant-loop-segment : goal.invariant-loop-segment
invariant-loop-segment l = (k : ℕ) (d : LocalSegmentValue) → k < l.segment-index → SegmentFits (slice_index_or (map segment l.segments) k d)
