use Rattle.pyver_documents.proofs.Once.{document_reports_once}
use Rattle.pyver_documents.proofs.laws.reports_once.Goals as goal

pub returns : goal.returns
returns c = document_reports_once
