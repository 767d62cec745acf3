use Rattle.std.proofs.Common.{length}
use Rattle.pep440_sets.proofs.convert.+list_set.Given as goal

abbrev pub decreases-list_set : goal.decreases-list_set
decreases-list_set l = length l.members.now
