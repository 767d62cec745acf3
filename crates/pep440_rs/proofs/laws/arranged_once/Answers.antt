use Rattle.pep440_rs.proofs.Arranging.Arranged.{one_arrangement, some_arrangement}
use Rattle.pep440_rs.proofs.laws.arranged_once.Goals as goal

pub returns-clause-some : goal.returns-clause-some
returns-clause-some c = some_arrangement

pub returns-clause-one : goal.returns-clause-one
returns-clause-one c = one_arrangement
