use Rattle.pyver_findings.proofs.SetsFound.{conflicts_have_findings, sets_have_findings}
use Rattle.pyver_findings.proofs.laws.conflicts_have_findings.Goals as goal

pub returns-clause-unmarked : goal.returns-clause-unmarked
returns-clause-unmarked c = conflicts_have_findings

pub returns-clause-environment : goal.returns-clause-environment
returns-clause-environment c = sets_have_findings
