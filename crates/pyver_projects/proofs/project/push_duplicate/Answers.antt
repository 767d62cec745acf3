use Rattle.std.proofs.Common.{◌≡◌, ◌++◌, ◌∙◌, IfOk, ap, not, subst}
use Rattle.std.specs.Prelude.{bytes_eq, count_by, map, nat_lt}
use Rattle.pyver_projects.specs.ProjectTables.{unless}
use Rattle.pyver_projects.specs.ProjectStrings.{indexed_names, project_string_of}
use Rattle.pyver_projects.proofs.project.push_duplicate.Goals as goal

pub returns : goal.returns
returns c =
    subst (λ b. IfOk c.push_unless.result (λ _. map project_string_of c.push_unless.new.sources.items ≡ map project_string_of c.args.sources.now.items
    ++ unless b c.args.table.now c.args.name.now c.args.reason.now))
    (ap not (c.has_twice-is_alone.ensures ∙ ap (λ n. nat_lt 1 (count_by (bytes_eq n) (indexed_names c.args.names.now))) (c.as_slice.ensures.value ∙ c.in_ok-normal.ensures)))
    c.push_unless.ensures
