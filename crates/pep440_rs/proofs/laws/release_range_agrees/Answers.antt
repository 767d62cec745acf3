use Rattle.pep440_rs.proofs.Agreement.Releases.{release_agrees}
use Rattle.pep440_rs.proofs.laws.release_range_agrees.Goals as goal

pub returns : goal.returns
returns c = release_agrees
