use Rattle.pep440_rs.proofs.Raising.Refused.{refused_at_max, release_refused_at_max}
use Rattle.pep440_rs.proofs.laws.refused_at_max.Goals as goal

pub returns-clause-whole : goal.returns-clause-whole
returns-clause-whole c = refused_at_max

pub returns-clause-release : goal.returns-clause-release
returns-clause-release c = release_refused_at_max
