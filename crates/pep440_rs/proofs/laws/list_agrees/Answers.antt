use Rattle.pep440_rs.proofs.Agreement.ListRanges.{list_agrees, release_list_agrees}
use Rattle.pep440_rs.proofs.laws.list_agrees.Goals as goal

pub returns-clause-whole : goal.returns-clause-whole
returns-clause-whole c = list_agrees

pub returns-clause-release : goal.returns-clause-release
returns-clause-release c = release_list_agrees
