use Rattle.std.proofs.Common.{length}
use Rattle.pyver_findings.proofs.halves.+find_core.Given as goal

abbrev pub decreases-find_core : goal.decreases-find_core
decreases-find_core l = length l.lines.now
