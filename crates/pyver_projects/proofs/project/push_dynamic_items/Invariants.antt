use Rattle.std.proofs.Common.{◌≡◌, ◌++◌, drop, map, option_map}
use Rattle.std.specs.List.{flat_map}
use Rattle.toml.specs.Data.{Data, as_str}
use Rattle.toml.specs.View.{view}
use Rattle.pyver_projects.specs.ProjectTables.{dynamic_source}
use Rattle.pyver_projects.specs.ProjectStrings.{project_string_of}
use Rattle.pyver_projects.proofs.project.push_dynamic_items.Given as goal

abbrev pub invariant-loop-item : goal.invariant-loop-item
invariant-loop-item l =
    let source = λ (d : Data). dynamic_source (option_map (λ v. view v.now) l.project) (as_str d) in
    map project_string_of l.sources.items ++ flat_map source (map view (drop l.item-index l.found)) ≡ map project_string_of l.initial.sources.items ++ flat_map source (map view l.found)
