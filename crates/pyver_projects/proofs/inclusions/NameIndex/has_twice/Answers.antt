use Rattle.std.proofs.Common.{◌∙◌, bytes_eq, count_by, sym}
use Rattle.pyver_projects.proofs.Walks.{is_not_twice, is_twice}
use Rattle.pyver_projects.specs.ProjectStrings.{indexed_names}
use Rattle.pyver_projects.proofs.inclusions.NameIndex.has_twice.Goals as goal

pub returns-in-Some : goal.returns-in-Some
returns-in-Some c = is_twice (count_by (bytes_eq c.args.name.now) (indexed_names c.args.self.now)) c.in-Some.is_repeated.now (sym (c.requires c.args.name.now) ∙ sym c.in-Some.ensures.value)

pub returns-in-None : goal.returns-in-None
returns-in-None c = is_not_twice (count_by (bytes_eq c.args.name.now) (indexed_names c.args.self.now)) (sym (c.requires c.args.name.now) ∙ sym c.in-None.ensures.value)
