use Rattle.pep440_version.proofs.Reading.Agreement.{only}
use Rattle.pep440_version.proofs.Reading.PublicAnswers.{is_found, is_only, is_refused, is_decided, is_told, is_reread, is_again}
use Rattle.pep440_version.proofs.version.Version.from_str.Goals as goal

pub returns-clause-found : goal.returns-clause-found
returns-clause-found c = is_found c.args.text.now _ c.parse_any.ensures.reads

pub returns-clause-only : goal.returns-clause-only
returns-clause-only c = is_only c.args.text.now _ c.parse_any.ensures.reads

pub returns-clause-refused : goal.returns-clause-refused
returns-clause-refused c = is_refused c.args.text.now _ c.parse_any.ensures.reads

pub returns-clause-decided : goal.returns-clause-decided
returns-clause-decided c = is_decided c.args.text.now _ c.parse_any.ensures.reads

pub returns-clause-message : goal.returns-clause-message
returns-clause-message c = is_told c.args.text.now _ c.parse_any.ensures.reads

pub returns-clause-round_trips : goal.returns-clause-round_trips
returns-clause-round_trips c = is_reread c.args.text.now _ c.parse_any.ensures.reads

pub returns-clause-again : goal.returns-clause-again
returns-clause-again c = is_again c.args.text.now _ c.parse_any.ensures.reads

pub returns-clause-memory : goal.returns-clause-memory
returns-clause-memory c = λ r d fits. c.parse_any.ensures.memory r (only c.args.text.now r d) fits
