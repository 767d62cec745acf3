use Rattle.std.specs.Prelude.{IfErr}
use Rattle.pep440_rs.proofs.Reading.Passed.{passed}
use Rattle.pyver_requirements.proofs.MarkerReadings.{read_steps_are_derived}
use Rattle.pyver_requirements.specs.MarkerSteps.{marker_steps}
use Rattle.pyver_requirements.specs.MarkerViews.{IsMarkerFault}
use Rattle.pyver_markers.proofs.Readings.{one_marker}
use Rattle.pyver_markers.proofs.environment_marker.EnvironmentMarker.parse.Goals as goal

pub returns-clause-found : goal.returns-clause-found
returns-clause-found c = read_steps_are_derived c.args.text.now _ c.in_ok-steps.ensures.found

pub returns-clause-only : goal.returns-clause-only
returns-clause-only c = one_marker c.args.text.now _ c.in_ok-steps.ensures.found

pub returns-in_err-steps-clause-refused : goal.returns-in_err-steps-clause-refused
returns-in_err-steps-clause-refused c =
    passed (λ r. IfErr r (IsMarkerFault (marker_steps c.args.text.now))) c.from_residual.result c.in_err-steps.field-0.0 c.from_residual.ensures.1 c.in_err-steps.ensures.refused
