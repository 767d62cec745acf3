use Rattle.std.proofs.Common.{◌≡◌, [], length}
use Rattle.std.specs.Prelude.{map}
use Rattle.pyver_requirements.specs.MarkerViews.{step_of}
use Rattle.pyver_markers.specs.Extents.{environment_of}
use Rattle.pyver_markers.specs.MarkerComparisons.{compare}
use Rattle.pyver_markers.specs.MarkerValues.{after_steps, both_hold, either_holds}
use Rattle.pyver_markers.proofs.environment_marker.take_steps.Given as goal

abbrev pub invariant-loop-rest : goal.invariant-loop-rest
invariant-loop-rest l =
    after_steps (compare (environment_of l.environment)) both_hold either_holds (map step_of l.rest) l.values.items
    ≡ after_steps (compare (environment_of l.environment)) both_hold either_holds (map step_of l.steps) []

abbrev pub decreases-loop-rest : goal.decreases-loop-rest
decreases-loop-rest l = length l.rest
