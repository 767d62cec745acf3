use Rattle.std.proofs.Common.{◌≡◌, length}
use Rattle.std.specs.List.{All}
use Rattle.pep440_compiled.proofs.SetMerging.{Collecting}
use Rattle.pep440_compiled.proofs.set_operations.collect_keys.Given as goal
use Rattle.pep440_compiled.specs.SetBytes.{IsSized, set_bytes}
use Rattle.pep440_rs.specs.Bounds.{Segments}

-- the keys are those that were found, and those of what is left
abbrev pub invariant-loop-left : goal.invariant-loop-left
invariant-loop-left l = (s : Segments) → All IsSized s → l.set ≡ set_bytes s → Collecting s l.keys.items l.left

abbrev pub decreases-loop-left : goal.decreases-loop-left
decreases-loop-left l = length l.left
