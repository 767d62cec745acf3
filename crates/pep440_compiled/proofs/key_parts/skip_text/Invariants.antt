use Rattle.std.proofs.Common.{◌≡◌, ◌≤◌, ◌++◌, List, length, ℕ}
use Rattle.pep440_compiled.proofs.Loops.{LeadsText}
use Rattle.pep440_compiled.proofs.key_parts.skip_text.Given as goal

abbrev pub invariant-loop-first : goal.invariant-loop-first
invariant-loop-first l = record {
  leads : LeadsText l.fn.bytes l.left;
  split : (text : List ℕ) × (l.fn.bytes ≡ text ++ l.left);
  shorter : length l.left ≤ length l.fn.bytes;
}

abbrev pub decreases-loop-first : goal.decreases-loop-first
decreases-loop-first l = length l.left
