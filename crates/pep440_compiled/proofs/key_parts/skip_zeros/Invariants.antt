use Rattle.std.proofs.Common.{◌≤◌, length}
use Rattle.pep440_compiled.proofs.Loops.{LeadsZeros}
use Rattle.pep440_compiled.proofs.key_parts.skip_zeros.Given as goal

abbrev pub invariant-loop-first : goal.invariant-loop-first
invariant-loop-first l = record {
  leads : LeadsZeros l.fn.bytes l.left;
  shorter : length l.left ≤ length l.fn.bytes;
}

abbrev pub decreases-loop-first : goal.decreases-loop-first
decreases-loop-first l = length l.left
