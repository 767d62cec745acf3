use Rattle.pep440_rs.proofs.Agreement.Operands.{list_gives, list_has_texts}
use Rattle.pep440_rs.proofs.Agreement.TextAgreement.{has_operand}
use Rattle.pep440_rs.proofs.Denoted.{is_denotable}
use Rattle.pep440_rs.proofs.laws.texts_give_operands.Goals as goal

pub returns-clause-single : goal.returns-clause-single
returns-clause-single c = has_operand

pub returns-clause-members : goal.returns-clause-members
returns-clause-members c = list_has_texts

pub returns-clause-list : goal.returns-clause-list
returns-clause-list c = list_gives

pub returns-clause-given : goal.returns-clause-given
returns-clause-given c = is_denotable
