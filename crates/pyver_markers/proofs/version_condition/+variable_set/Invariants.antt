use Rattle.std.proofs.Common.{length}
use Rattle.pyver_markers.proofs.version_condition.+variable_set.Given as goal

abbrev pub decreases-variable_set : goal.decreases-variable_set
decreases-variable_set l = length l.conditions.now
