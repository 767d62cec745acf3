use Rattle.pyver_documents.proofs.Holding.{findings_hold}
use Rattle.pyver_documents.proofs.laws.findings_hold.Goals as goal

pub returns : goal.returns
returns c = findings_hold
