use Rattle.pep440_rs.proofs.Reading.Answered.{is_again, is_decided, is_found, is_only, is_refused}
use Rattle.pep440_rs.proofs.Agreement.Operands.{answered_operand}
use Rattle.pep440_rs.proofs.Reading.Told.{is_told}
use Rattle.pep440_rs.proofs.specifier.VersionSpecifier.from_str.Goals as goal

pub returns-clause-found : goal.returns-clause-found
returns-clause-found c = is_found c.args.text.now _ c.read.ensures.value

pub returns-clause-operand : goal.returns-clause-operand
returns-clause-operand c = answered_operand c.args.text.now _ (is_found c.args.text.now _ c.read.ensures.value)

pub returns-clause-only : goal.returns-clause-only
returns-clause-only c = is_only c.args.text.now _ c.read.ensures.value

pub returns-clause-refused : goal.returns-clause-refused
returns-clause-refused c = is_refused c.args.text.now _ c.read.ensures.value

pub returns-clause-decided : goal.returns-clause-decided
returns-clause-decided c = is_decided c.args.text.now _ c.read.ensures.value

pub returns-clause-message : goal.returns-clause-message
returns-clause-message c = is_told c.args.text.now _ (is_refused c.args.text.now _ c.read.ensures.value)

pub returns-clause-again : goal.returns-clause-again
returns-clause-again c = is_again c.args.text.now _ c.read.ensures.value
