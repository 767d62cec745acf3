use Rattle.pyver_documents.proofs.Agreeing.{no_finding_means_contained, no_finding_means_satisfiable}
use Rattle.pyver_documents.proofs.laws.no_finding_means_agreement.Goals as goal

pub returns-clause-contained : goal.returns-clause-contained
returns-clause-contained c = no_finding_means_contained

pub returns-clause-satisfiable : goal.returns-clause-satisfiable
returns-clause-satisfiable c = no_finding_means_satisfiable
