use Rattle.std.proofs.Common.{length}
use Rattle.pep440_compiled.proofs.Checking.{TestedSegments}
use Rattle.pep440_compiled.proofs.checked_version.is_local_part.Given as goal

abbrev pub invariant-loop-first : goal.invariant-loop-first
invariant-loop-first l = TestedSegments l.fn.bytes l.left

abbrev pub decreases-loop-first : goal.decreases-loop-first
decreases-loop-first l = length l.left
