use Rattle.std.proofs.Common.{◌+◌, ◌≤◌, length}
use Rattle.pep440_compiled.proofs.Comparing.{Counts}
use Rattle.pep440_compiled.proofs.matching.without_last.Given as goal

abbrev pub invariant-loop-first : goal.invariant-loop-first
invariant-loop-first l = record {
  counts : Counts l.fn.base l.left l.length l.zeros;
  few : l.zeros + length l.left ≤ length l.fn.base;
  inside : l.length ≤ length l.fn.base;
}

abbrev pub decreases-loop-first : goal.decreases-loop-first
decreases-loop-first l = length l.left
