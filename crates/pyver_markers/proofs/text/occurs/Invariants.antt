use Rattle.std.proofs.Common.{◌≡◌, length}
use Rattle.pyver_markers.specs.MarkerComparisons.{occurs}
use Rattle.pyver_markers.proofs.text.occurs.Given as goal

abbrev pub invariant-loop-rest : goal.invariant-loop-rest
invariant-loop-rest l = occurs l.part l.rest ≡ occurs l.part l.text

abbrev pub decreases-loop-rest : goal.decreases-loop-rest
decreases-loop-rest l = length l.rest
