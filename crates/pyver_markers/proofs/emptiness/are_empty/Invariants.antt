use Rattle.std.proofs.Common.{◌≡◌, false, length}
use Rattle.pyver_markers.specs.Boxes.{in_boxes}
use Rattle.pyver_markers.specs.Conditions.{IsEnvironment}
use Rattle.pyver_markers.specs.Environments.{Environment}
use Rattle.pyver_markers.specs.Extents.{domain_of}
use Rattle.pyver_markers.proofs.emptiness.are_empty.Given as goal

abbrev pub invariant-loop-rest : goal.invariant-loop-rest
invariant-loop-rest l = (e : Environment) → IsEnvironment (domain_of l.domain) e → in_boxes e l.rest ≡ false → in_boxes e l.boxes ≡ false

abbrev pub decreases-loop-rest : goal.decreases-loop-rest
decreases-loop-rest l = length l.rest
