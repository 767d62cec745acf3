use Rattle.std.proofs.Common.{◌≡◌, ◌++◌, length}
use Rattle.pep440_ranges.specs.Complement.{gaps, gaps_after}
use Rattle.pep440_ranges.specs.Clones.{ClonesBound, ClonesEach}
use Rattle.pep440_ranges.proofs.gaps.find_gaps.Given as goal

abbrev pub invariant-loop-segment : goal.invariant-loop-segment
invariant-loop-segment g l = record {
  same : l.found.items ++ gaps_after l.end l.rest ≡ gaps l.segments;
  end : ClonesBound g.V.Clone.is_clone l.end;
  clones : ClonesEach g.V.Clone.is_clone l.rest;
}

abbrev pub decreases-loop-segment : goal.decreases-loop-segment
decreases-loop-segment g l = length l.rest
