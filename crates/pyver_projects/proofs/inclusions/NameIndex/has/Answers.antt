use Rattle.std.proofs.Common.{◌∙◌, bytes_eq}
use Rattle.pyver_projects.proofs.Walks.{is_one}
use Rattle.pyver_projects.specs.ProjectStrings.{indexed_names}
use Rattle.pyver_projects.proofs.inclusions.NameIndex.has.Goals as goal

pub returns : goal.returns
returns c = c.contains_key.ensures ∙ is_one (bytes_eq c.args.name.now) (indexed_names c.args.self.now) _ (c.requires c.args.name.now)
