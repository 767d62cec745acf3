use Rattle.std.proofs.Common.{◌∙◌, sym}
use Rattle.pyver_documents.proofs.Walks.{not_included}
use Rattle.pyver_documents.specs.DocumentViews.{rank_of}
use Rattle.pyver_projects.specs.ProjectStrings.{inclusions_of}
use Rattle.pyver_documents.proofs.groups.Groups.includes.Goals as goal

pub returns-then-has_before : goal.returns-then-has_before
returns-then-has_before c =
    let all = c.args.self.now in
    sym (not_included (rank_of all.order.places) (inclusions_of all.inclusions) all.order.is_right c.args.group.now c.args.name.now c.requires.2 (sym c.has_before.ensures ∙ c.if-has_before.true))
