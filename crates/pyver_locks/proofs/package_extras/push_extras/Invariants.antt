use Rattle.std.proofs.Common.{◌≡◌, ◌++◌, map}
use Rattle.std.specs.List.{flat_map}
use Rattle.toml.specs.View.{members_view}
use Rattle.pyver_locks.specs.LockContents.{locked_extra_of}
use Rattle.pyver_locks.specs.PackageRequirements.{extra_requirements}
use Rattle.pyver_projects.specs.ProjectStrings.{members_list}
use Rattle.pyver_locks.proofs.package_extras.push_extras.Given as goal

abbrev pub invariant-loop-extra : goal.invariant-loop-extra
invariant-loop-extra l =
    map locked_extra_of l.found.items ++ flat_map (extra_requirements l.line l.requirer l.name) (members_list (members_view l.extra-iterator))
    ≡ map locked_extra_of l.initial.found.items ++ flat_map (extra_requirements l.line l.requirer l.name) (members_list (members_view l.extras.entries))
