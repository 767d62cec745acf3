use Rattle.std.proofs.Common.{◌≡◌, ◌++◌, length}
use Rattle.pep440_ranges.specs.Clones.{ClonesEach}
use Rattle.pep440_ranges.proofs.segments.clone_segments.Given as goal

abbrev pub invariant-loop-segment : goal.invariant-loop-segment
invariant-loop-segment g l = record {
  same : l.copy.items ++ l.rest ≡ l.segments;
  clones : ClonesEach g.V.Clone.is_clone l.rest;
}

abbrev pub decreases-loop-segment : goal.decreases-loop-segment
decreases-loop-segment g l = length l.rest
