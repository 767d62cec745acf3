use Rattle.pyver_requirements.proofs.MarkerReadings.{markers_are_read, read_markers_are_derived}
use Rattle.pyver_requirements.proofs.laws.markers_have_grammar.Goals as goal

pub returns-clause-read : goal.returns-clause-read
returns-clause-read c = markers_are_read

pub returns-clause-derived : goal.returns-clause-derived
returns-clause-derived c = read_markers_are_derived
