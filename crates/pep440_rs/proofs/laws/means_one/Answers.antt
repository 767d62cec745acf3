use Rattle.pep440_rs.proofs.Reading.OneMeaning.{one_list, one_specifier}
use Rattle.pep440_rs.proofs.laws.means_one.Goals as goal

pub returns-clause-specifier : goal.returns-clause-specifier
returns-clause-specifier c = one_specifier

pub returns-clause-list : goal.returns-clause-list
returns-clause-list c = one_list
