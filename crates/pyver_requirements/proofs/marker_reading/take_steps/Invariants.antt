use Rattle.std.proofs.Common.{◌≡◌, [], length}
use Rattle.std.specs.Prelude.{map}
use Rattle.pyver_requirements.specs.MarkerReading.{terms_after_steps}
use Rattle.pyver_requirements.specs.MarkerViews.{step_of, terms_of}
use Rattle.pyver_requirements.proofs.marker_reading.take_steps.Given as goal

abbrev pub invariant-loop-rest : goal.invariant-loop-rest
invariant-loop-rest l = terms_after_steps (map step_of l.rest) (map terms_of l.terms.items) ≡ terms_after_steps (map step_of l.steps) []

abbrev pub decreases-loop-rest : goal.decreases-loop-rest
decreases-loop-rest l = length l.rest
