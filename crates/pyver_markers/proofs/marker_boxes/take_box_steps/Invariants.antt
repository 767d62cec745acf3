use Rattle.std.proofs.Common.{◌≡◌, [], length, not}
use Rattle.std.specs.Prelude.{map}
use Rattle.pyver_requirements.specs.MarkerViews.{step_of}
use Rattle.pyver_markers.specs.Boxes.{comparison_boxes, join_boxes}
use Rattle.pyver_markers.specs.Extents.{boxes_of}
use Rattle.pyver_markers.specs.MarkerValues.{after_steps}
use Rattle.pyver_markers.proofs.marker_boxes.take_box_steps.Given as goal

abbrev pub invariant-loop-rest : goal.invariant-loop-rest
invariant-loop-rest l =
    after_steps (comparison_boxes l.wanted) (join_boxes l.wanted) (join_boxes (not l.wanted)) (map step_of l.rest) (map boxes_of l.stack.items)
    ≡ after_steps (comparison_boxes l.wanted) (join_boxes l.wanted) (join_boxes (not l.wanted)) (map step_of l.steps) []

abbrev pub decreases-loop-rest : goal.decreases-loop-rest
decreases-loop-rest l = length l.rest
