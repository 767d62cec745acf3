use Rattle.pyver_findings.proofs.Complete.{meanings_once, reports_once}
use Rattle.pyver_findings.proofs.laws.reports_once.Goals as goal

pub returns-clause-meaning : goal.returns-clause-meaning
returns-clause-meaning c = meanings_once

pub returns-clause-report : goal.returns-clause-report
returns-clause-report c = reports_once
