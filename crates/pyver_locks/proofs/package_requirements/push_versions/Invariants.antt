use Rattle.std.proofs.Common.{◌≡◌, ◌++◌, drop, map}
use Rattle.std.specs.List.{flat_map}
use Rattle.toml.specs.View.{view}
use Rattle.pyver_locks.specs.LockContents.{requirement_of}
use Rattle.pyver_locks.specs.PackageRequirements.{version_requirements}
use Rattle.pyver_locks.proofs.package_requirements.push_versions.Given as goal

abbrev pub invariant-loop-value : goal.invariant-loop-value
invariant-loop-value l =
    map requirement_of l.found.items ++ flat_map (version_requirements l.line l.requirer l.name) (map view (drop l.value-index l.list))
    ≡ map requirement_of l.initial.found.items ++ flat_map (version_requirements l.line l.requirer l.name) (map view l.list)
