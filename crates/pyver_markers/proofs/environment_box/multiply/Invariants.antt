use Rattle.std.proofs.Common.{◌≡◌, ◌++◌, length}
use Rattle.pyver_markers.specs.Boxes.{products}
use Rattle.pyver_markers.proofs.environment_box.multiply.Given as goal

abbrev pub invariant-loop-rest : goal.invariant-loop-rest
invariant-loop-rest l = l.all.items ++ products l.rest l.fn.others ≡ products l.fn.boxes l.fn.others

abbrev pub decreases-loop-rest : goal.decreases-loop-rest
decreases-loop-rest l = length l.rest
