use Rattle.pep440_pick.proofs.Once.{one_requirement}
use Rattle.pep440_pick.proofs.laws.means_one.Goals as goal

pub returns : goal.returns
returns c = one_requirement
