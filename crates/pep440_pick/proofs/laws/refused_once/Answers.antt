use Rattle.pep440_pick.proofs.Once.{either_requirement, not_both_requirement, one_refusal}
use Rattle.pep440_pick.proofs.laws.refused_once.Goals as goal

pub returns-clause-one : goal.returns-clause-one
returns-clause-one c = one_refusal

pub returns-clause-either : goal.returns-clause-either
returns-clause-either c = either_requirement

pub returns-clause-derived : goal.returns-clause-derived
returns-clause-derived c = not_both_requirement
