use Rattle.std.proofs.Common.{length}
use Rattle.pyver_markers.proofs.FoundEnvironments.{AreFound}
use Rattle.pyver_markers.proofs.found_environment.borrow_variables.Given as goal

abbrev pub invariant-loop-rest : goal.invariant-loop-rest
invariant-loop-rest l = AreFound l.variables.items l.rest l.found

abbrev pub decreases-loop-rest : goal.decreases-loop-rest
decreases-loop-rest l = length l.rest
