use Rattle.std.proofs.Common.{length}
use Rattle.pep440_sets.proofs.witness.+string_after.Given as goal

abbrev pub decreases-string_after : goal.decreases-string_after
decreases-string_after l = length l.local.now
