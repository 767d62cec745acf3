use Rattle.pep440_version.proofs.RoundTrip.PrintIsRead.{derived_record, derived_rereads, reread}
use Rattle.pep440_version.proofs.laws.meaning_is_printed.Goals as goal

pub returns-clause-bounded : goal.returns-clause-bounded
returns-clause-bounded c = derived_record

pub returns-clause-rereads : goal.returns-clause-rereads
returns-clause-rereads c = derived_rereads

pub returns-clause-again : goal.returns-clause-again
returns-clause-again c = reread
