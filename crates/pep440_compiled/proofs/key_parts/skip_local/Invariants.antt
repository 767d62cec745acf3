use Rattle.std.proofs.Common.{◌≤◌, length}
use Rattle.pep440_compiled.proofs.Loops.{Leads}
use Rattle.pep440_compiled.proofs.key_parts.skip_local.Given as goal
use Rattle.pep440_keys.specs.SortKeys.{HasNoZero, segment_bytes}

abbrev pub invariant-loop-first : goal.invariant-loop-first
invariant-loop-first l = record {
  leads : Leads HasNoZero segment_bytes l.fn.bytes l.left;
  shorter : length l.left ≤ length l.fn.bytes;
}

abbrev pub decreases-loop-first : goal.decreases-loop-first
decreases-loop-first l = length l.left
