use Rattle.std.proofs.Common.{◌≡◌, ◌∙◌, ◌++◌, List, ℕ, Some, codes, map, string_bytes, ap}
use Rattle.std.proofs.lemmas.List.{append_assoc}
use Rattle.std.proofs.lemmas.Result.{IfOk-weaker}
use Rattle.pep440_pick.specs.Names.{normal}
use Rattle.toml.specs.View.{view}
use Rattle.pyver_projects.specs.ProjectStrings.{Extra, indexed_names, project_string_of}
use Rattle.pyver_projects.specs.ProjectTables.{array_sources, extra_sources, name_faults}
use Rattle.pyver_projects.proofs.project.push_extra.Goals as goal

pub returns : goal.returns
returns c =
    let names = indexed_names c.args.names.now in
    let name = string_bytes c.args.name.now in
    let old = map project_string_of c.args.sources.now.items in
    let middle = map project_string_of c.push_name_faults.new.sources.items in
    let new = map project_string_of c.push_extra_items.new.sources.items in
    let value = view c.args.value.now in
    let faults = name_faults (codes "project.optional-dependencies.") (codes "another extra has this name") names in
    let array = λ (n : List ℕ). array_sources (codes "project.optional-dependencies.") n (Extra (normal n)) (Some value) in
    let first : middle ≡ old ++ faults name = c.in_ok-push_name_faults.ensures ∙ ap (λ n. old ++ faults n) c.as_str.ensures.value in
    IfOk-weaker c.push_extra_items.result (λ _. new ≡ middle ++ array c.as_str-2.result.now) (λ _. new ≡ old ++ extra_sources names (name, value))
    (λ _ e. e ∙ ap (λ n. middle ++ array n) c.as_str-2.ensures.value ∙ ap (λ m. m ++ array name) first ∙ append_assoc old (faults name) (array name))
    c.push_extra_items.ensures
