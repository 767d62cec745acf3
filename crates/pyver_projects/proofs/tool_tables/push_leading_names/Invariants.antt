use Rattle.std.proofs.Common.{◌≡◌, ◌++◌, drop, map}
use Rattle.std.specs.List.{flat_map}
use Rattle.toml.specs.Data.{Data, as_str}
use Rattle.toml.specs.View.{view}
use Rattle.pyver_projects.specs.ProjectTables.{leading_name}
use Rattle.pyver_projects.proofs.tool_tables.push_leading_names.Given as goal

abbrev pub invariant-loop-item : goal.invariant-loop-item
invariant-loop-item l =
    let name = λ (d : Data). leading_name (as_str d) in
    map (λ n. n.items) l.names.items ++ flat_map name (map view (drop l.item-index l.found)) ≡ map (λ n. n.items) l.initial.names.items ++ flat_map name (map view l.found)
