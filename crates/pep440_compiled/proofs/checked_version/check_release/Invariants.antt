use Rattle.std.proofs.Common.{length}
use Rattle.pep440_compiled.proofs.Checking.{Tested}
use Rattle.pep440_compiled.proofs.checked_version.check_release.Given as goal

abbrev pub invariant-loop-first : goal.invariant-loop-first
invariant-loop-first l = Tested l.fn.bytes l.left l.zeros l.may_end

abbrev pub decreases-loop-first : goal.decreases-loop-first
decreases-loop-first l = length l.left

abbrev pub invariant-loop-rest : goal.invariant-loop-rest
invariant-loop-rest l = Tested l.fn.bytes l.left l.zeros l.may_end

abbrev pub decreases-loop-rest : goal.decreases-loop-rest
decreases-loop-rest l = length l.left
