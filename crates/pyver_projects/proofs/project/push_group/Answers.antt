use Rattle.std.proofs.Common.{◌≡◌, ◌∙◌, ◌++◌, codes, map, string_bytes, ap}
use Rattle.std.proofs.lemmas.List.{append_assoc}
use Rattle.std.proofs.lemmas.Result.{IfOk-weaker}
use Rattle.toml.specs.View.{view}
use Rattle.pyver_projects.specs.ProjectTables.{group_items, group_sources, name_faults}
use Rattle.pyver_projects.specs.ProjectStrings.{indexed_names, project_string_of}
use Rattle.pyver_projects.proofs.project.push_group.Goals as goal

pub returns : goal.returns
returns c =
    let names = indexed_names c.args.names.now in
    let name = string_bytes c.args.name.now in
    let old = map project_string_of c.args.sources.now.items in
    let middle = map project_string_of c.push_name_faults.new.sources.items in
    let new = map project_string_of c.push_group_items.new.sources.items in
    let value = view c.args.value.now in
    let faults = name_faults (codes "dependency-groups.") (codes "another group has this name") names in
    let first : middle ≡ old ++ faults name = c.in_ok-push_name_faults.ensures ∙ ap (λ n. old ++ faults n) c.as_str.ensures.value in
    IfOk-weaker c.push_group_items.result (λ _. new ≡ middle ++ group_items c.as_str-2.result.now value) (λ _. new ≡ old ++ group_sources names (name, value))
    (λ _ e. e ∙ ap (λ n. middle ++ group_items n value) c.as_str-2.ensures.value ∙ ap (λ m. m ++ group_items name value) first ∙ append_assoc old (faults name) (group_items name value))
    c.push_group_items.ensures
