use Rattle.pep440_rs.proofs.Reread.ListAgain.{is_list_again, is_list_joined}
use Rattle.pep440_rs.proofs.Reading.ListTells.{is_list_decided, is_list_found, is_list_only, is_list_refused}
use Rattle.pep440_rs.proofs.Reading.ListTold.{is_list_told}
use Rattle.pep440_rs.proofs.Agreement.Operands.{answered_operands}
use Rattle.pep440_rs.proofs.Denoted.{answered_denotable}
use Rattle.pep440_rs.proofs.list.VersionSpecifiers.from_str.Goals as goal

pub returns-clause-found : goal.returns-clause-found
returns-clause-found c = is_list_found c.args.text.now _ c.read.ensures.value

pub returns-clause-operand : goal.returns-clause-operand
returns-clause-operand c = answered_operands c.args.text.now _ (is_list_found c.args.text.now _ c.read.ensures.value)

pub returns-clause-denotable : goal.returns-clause-denotable
returns-clause-denotable c = answered_denotable c.args.text.now _ (is_list_found c.args.text.now _ c.read.ensures.value)

pub returns-clause-only : goal.returns-clause-only
returns-clause-only c = is_list_only c.args.text.now _ c.read.ensures.value

pub returns-clause-refused : goal.returns-clause-refused
returns-clause-refused c = is_list_refused c.args.text.now _ c.read.ensures.value

pub returns-clause-decided : goal.returns-clause-decided
returns-clause-decided c = is_list_decided c.args.text.now _ c.read.ensures.value

pub returns-clause-message : goal.returns-clause-message
returns-clause-message c = is_list_told c.args.text.now _ (is_list_refused c.args.text.now _ c.read.ensures.value) c.read.ensures.line

pub returns-clause-again : goal.returns-clause-again
returns-clause-again c = is_list_again c.args.text.now _ c.read.ensures.value

pub returns-clause-joined : goal.returns-clause-joined
returns-clause-joined c = is_list_joined c.args.text.now _ c.read.ensures.value
