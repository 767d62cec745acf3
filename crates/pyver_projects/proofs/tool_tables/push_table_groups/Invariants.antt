use Rattle.std.proofs.Common.{◌≡◌, ◌++◌, map}
use Rattle.std.specs.List.{flat_map}
use Rattle.toml.specs.View.{members_view}
use Rattle.pyver_projects.specs.ProjectStrings.{members_list, project_string_of}
use Rattle.pyver_projects.specs.ProjectTables.{tool_group}
use Rattle.pyver_projects.proofs.tool_tables.push_table_groups.Given as goal

abbrev pub invariant-loop-name : goal.invariant-loop-name
invariant-loop-name l =
    map project_string_of l.sources.items ++ flat_map (tool_group l.tool) (members_list (members_view l.name-iterator))
    ≡ map project_string_of l.initial.sources.items ++ flat_map (tool_group l.tool) (members_list (members_view l.groups.entries))
