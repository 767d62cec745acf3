use Rattle.pep440_rs.proofs.Reading.OneMeaning.{either_list, either_specifier, not_both_list, not_both_specifier, one_list_refusal, one_specifier_refusal}
use Rattle.pep440_rs.proofs.laws.refused_once.Goals as goal

pub returns-clause-specifier : goal.returns-clause-specifier
returns-clause-specifier c = one_specifier_refusal

pub returns-clause-either : goal.returns-clause-either
returns-clause-either c = either_specifier

pub returns-clause-derived : goal.returns-clause-derived
returns-clause-derived c = not_both_specifier

pub returns-clause-list : goal.returns-clause-list
returns-clause-list c = one_list_refusal

pub returns-clause-either_list : goal.returns-clause-either_list
returns-clause-either_list c = either_list

pub returns-clause-derived_list : goal.returns-clause-derived_list
returns-clause-derived_list c = not_both_list
