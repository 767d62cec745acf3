use Rattle.std.proofs.Common.{◌≡◌, length}
use Rattle.std.specs.List.{All}
use Rattle.pep440_compiled.proofs.SetKeys.{ReadFronts}
use Rattle.pep440_compiled.proofs.set_bytes.read_fronts.Given as goal
use Rattle.pep440_compiled.specs.SetBytes.{IsSized, set_bytes}
use Rattle.pep440_rs.specs.Bounds.{Segments}

abbrev pub invariant-loop-left : goal.invariant-loop-left
invariant-loop-left l = (segments : Segments) → All IsSized segments → l.fn.set ≡ set_bytes segments → ReadFronts segments l.fronts.items l.left

abbrev pub decreases-loop-left : goal.decreases-loop-left
decreases-loop-left l = length l.left
