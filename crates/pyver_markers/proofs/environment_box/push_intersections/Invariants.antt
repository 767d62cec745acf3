use Rattle.std.proofs.Common.{◌≡◌, ◌++◌, length}
use Rattle.std.specs.Prelude.{map}
use Rattle.pyver_markers.proofs.environment_box.push_intersections.Given as goal

abbrev pub invariant-loop-rest : goal.invariant-loop-rest
invariant-loop-rest l = l.boxes.items ++ map (λ b. l.fn.one ++ b) l.rest ≡ l.fn.boxes.items ++ map (λ b. l.fn.one ++ b) l.fn.others

abbrev pub decreases-loop-rest : goal.decreases-loop-rest
decreases-loop-rest l = length l.rest
