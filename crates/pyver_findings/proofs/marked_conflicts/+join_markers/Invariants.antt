use Rattle.std.proofs.Common.{length}
use Rattle.pyver_findings.proofs.marked_conflicts.+join_markers.Given as goal

abbrev pub decreases-join_markers : goal.decreases-join_markers
decreases-join_markers l = length l.set.now
