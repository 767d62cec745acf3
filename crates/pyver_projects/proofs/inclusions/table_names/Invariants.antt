use Rattle.std.proofs.Common.{◌≡◌, ◌++◌, map}
use Rattle.toml.specs.View.{members_view}
use Rattle.pyver_projects.specs.ProjectStrings.{members_list}
use Rattle.pyver_projects.specs.ProjectTables.{entry_name}
use Rattle.pyver_projects.proofs.inclusions.table_names.Given as goal

abbrev pub invariant-loop-name : goal.invariant-loop-name
invariant-loop-name l = map (λ n. n.items) l.names.items ++ map entry_name (members_list (members_view l.name-iterator)) ≡ map entry_name (members_list (members_view l.table.entries))
