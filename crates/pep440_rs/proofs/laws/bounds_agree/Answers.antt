use Rattle.pep440_rs.proofs.Within.PairMembers.{pair_agrees}
use Rattle.pep440_rs.proofs.Within.ListMembers.{contains_within, contains_only_within}
use Rattle.pep440_rs.proofs.laws.bounds_agree.Goals as goal

pub returns-clause-pair : goal.returns-clause-pair
returns-clause-pair c = pair_agrees

pub returns-clause-all : goal.returns-clause-all
returns-clause-all c = contains_within

pub returns-clause-only : goal.returns-clause-only
returns-clause-only c = contains_only_within
