use Rattle.std.proofs.Common.{◌≡◌, ◌++◌, map}
use Rattle.std.specs.List.{flat_map}
use Rattle.toml.specs.View.{members_view}
use Rattle.pyver_locks.specs.LockContents.{requirement_of}
use Rattle.pyver_locks.specs.PackageRequirements.{member_requirements}
use Rattle.pyver_projects.specs.ProjectStrings.{members_list}
use Rattle.pyver_locks.proofs.package_requirements.push_members.Given as goal

abbrev pub invariant-loop-name : goal.invariant-loop-name
invariant-loop-name l =
    map requirement_of l.found.items ++ flat_map (member_requirements l.line l.requirer) (members_list (members_view l.name-iterator))
    ≡ map requirement_of l.initial.found.items ++ flat_map (member_requirements l.line l.requirer) (members_list (members_view l.members.entries))
