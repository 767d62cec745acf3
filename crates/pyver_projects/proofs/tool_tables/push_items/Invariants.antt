use Rattle.std.proofs.Common.{◌≡◌, ◌++◌, drop, map}
use Rattle.std.specs.List.{flat_map}
use Rattle.toml.specs.View.{view}
use Rattle.pyver_projects.specs.ProjectTables.{entry_source}
use Rattle.pyver_projects.specs.ProjectStrings.{project_string_of}
use Rattle.pyver_projects.proofs.tool_tables.push_items.Given as goal

abbrev pub invariant-loop-entry : goal.invariant-loop-entry
invariant-loop-entry l =
    map project_string_of l.sources.items ++ flat_map (entry_source l.table l.name) (map view (drop l.entry-index l.found))
    ≡ map project_string_of l.initial.sources.items ++ flat_map (entry_source l.table l.name) (map view l.found)
