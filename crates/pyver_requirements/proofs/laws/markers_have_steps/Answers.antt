use Rattle.pyver_requirements.proofs.MarkerReadings.{read_steps_are_derived}
use Rattle.pyver_requirements.proofs.MarkerStepReadings.{steps_are_read}
use Rattle.pyver_requirements.proofs.laws.markers_have_steps.Goals as goal

pub returns-clause-read : goal.returns-clause-read
returns-clause-read c = steps_are_read

pub returns-clause-derived : goal.returns-clause-derived
returns-clause-derived c = read_steps_are_derived
