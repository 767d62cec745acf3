use Rattle.std.proofs.Common.{◌≡◌, ◌++◌, map}
use Rattle.std.specs.List.{flat_map}
use Rattle.toml.specs.View.{members_view}
use Rattle.pyver_locks.specs.LockContents.{requirement_of}
use Rattle.pyver_locks.specs.PackageRequirements.{group_entries}
use Rattle.pyver_projects.specs.ProjectStrings.{members_list}
use Rattle.pyver_locks.proofs.own_entries.push_group_entries.Given as goal

abbrev pub invariant-loop-group : goal.invariant-loop-group
invariant-loop-group l =
    map requirement_of l.found.items ++ flat_map (group_entries l.line l.requirer) (members_list (members_view l.group-iterator))
    ≡ map requirement_of l.initial.found.items ++ flat_map (group_entries l.line l.requirer) (members_list (members_view l.groups.entries))
