use Rattle.pep440_rs.proofs.Agreement.Single.{agrees, holds_only_matches, holds_all_matches}
use Rattle.pep440_rs.proofs.laws.range_agrees.Goals as goal

pub returns-clause-agrees : goal.returns-clause-agrees
returns-clause-agrees c = agrees

pub returns-clause-within : goal.returns-clause-within
returns-clause-within c = holds_only_matches

pub returns-clause-around : goal.returns-clause-around
returns-clause-around c = holds_all_matches
