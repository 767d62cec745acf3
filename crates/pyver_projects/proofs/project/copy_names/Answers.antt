use Rattle.pyver_projects.proofs.Walks.{same_bytes, same_names}
use Rattle.pyver_projects.proofs.project.copy_names.Goals as goal

pub returns : goal.returns
returns c = same_names _ (λ v w r. same_bytes v.items w.items r.0) _ _ c.in_ok-clone.ensures.cases.0
