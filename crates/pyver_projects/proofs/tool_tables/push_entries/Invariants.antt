use Rattle.std.proofs.Common.{◌≡◌, ◌++◌, map}
use Rattle.std.specs.List.{flat_map}
use Rattle.toml.specs.View.{members_view}
use Rattle.pyver_projects.specs.ProjectStrings.{members_list, project_string_of}
use Rattle.pyver_projects.specs.ProjectTables.{entry_sources}
use Rattle.pyver_projects.proofs.tool_tables.push_entries.Given as goal

abbrev pub invariant-loop-name : goal.invariant-loop-name
invariant-loop-name l =
    map project_string_of l.sources.items ++ flat_map (entry_sources l.path) (members_list (members_view l.name-iterator))
    ≡ map project_string_of l.initial.sources.items ++ flat_map (entry_sources l.path) (members_list (members_view l.found.entries))
