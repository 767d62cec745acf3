use Rattle.std.proofs.Common.{◌≡◌, ◌++◌, drop, map}
use Rattle.std.specs.List.{flat_map}
use Rattle.toml.specs.View.{view}
use Rattle.pyver_projects.specs.ProjectTables.{source_from}
use Rattle.pyver_projects.specs.ProjectStrings.{section_of, project_string_of}
use Rattle.pyver_projects.proofs.project.push_strings.Given as goal

abbrev pub invariant-loop-item : goal.invariant-loop-item
invariant-loop-item l =
    map project_string_of l.sources.items ++ flat_map (source_from l.table l.name (section_of l.section)) (map view (drop l.item-index l.found))
    ≡ map project_string_of l.initial.sources.items ++ flat_map (source_from l.table l.name (section_of l.section)) (map view l.found)
