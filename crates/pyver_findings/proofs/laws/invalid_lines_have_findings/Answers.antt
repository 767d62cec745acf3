use Rattle.pyver_findings.proofs.Complete.{invalid_lines_have_findings, lacked_hashes_have_findings, wrong_constraints_have_findings}
use Rattle.pyver_findings.proofs.laws.invalid_lines_have_findings.Goals as goal

pub returns-clause-line : goal.returns-clause-line
returns-clause-line c = invalid_lines_have_findings

pub returns-clause-constraint : goal.returns-clause-constraint
returns-clause-constraint c = wrong_constraints_have_findings

pub returns-clause-hash : goal.returns-clause-hash
returns-clause-hash c = lacked_hashes_have_findings
