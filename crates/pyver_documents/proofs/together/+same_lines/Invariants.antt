use Rattle.std.proofs.Common.{length}
use Rattle.pyver_documents.proofs.together.+same_lines.Given as goal

abbrev pub decreases-same_lines : goal.decreases-same_lines
decreases-same_lines l = length l.lines.now
