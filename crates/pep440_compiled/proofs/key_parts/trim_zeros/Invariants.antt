use Rattle.std.proofs.Common.{◌≡◌, ◌≤◌, ◌++◌, length, replicate, ℕ}
use Rattle.pep440_compiled.proofs.Loops.{EndsZeros}
use Rattle.pep440_compiled.proofs.key_parts.trim_zeros.Given as goal

abbrev pub invariant-loop-last : goal.invariant-loop-last
invariant-loop-last l = record {
  ends : EndsZeros l.fn.bytes l.left;
  split : (zeros : ℕ) × (l.fn.bytes ≡ l.left ++ replicate zeros 1);
  shorter : length l.left ≤ length l.fn.bytes;
}

abbrev pub decreases-loop-last : goal.decreases-loop-last
decreases-loop-last l = length l.left
