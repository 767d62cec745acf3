use Rattle.pep440_pick.proofs.Once.{one_newest}
use Rattle.pep440_pick.proofs.laws.newest_once.Goals as goal

pub returns : goal.returns
returns c = one_newest
