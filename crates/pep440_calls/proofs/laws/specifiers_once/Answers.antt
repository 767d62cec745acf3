use Rattle.pep440_calls.proofs.Once.{either_specifier_text, never_rejected, never_without_operand, one_specifier_error, one_specifier_text}
use Rattle.pep440_calls.proofs.laws.specifiers_once.Goals as goal

pub returns-clause-one : goal.returns-clause-one
returns-clause-one c = one_specifier_text

pub returns-clause-either : goal.returns-clause-either
returns-clause-either c = either_specifier_text

pub returns-clause-never_both : goal.returns-clause-never_both
returns-clause-never_both c = never_rejected

pub returns-clause-never_without : goal.returns-clause-never_without
returns-clause-never_without c = never_without_operand

pub returns-clause-one_error : goal.returns-clause-one_error
returns-clause-one_error c = one_specifier_error
