use Rattle.std.proofs.Common.{◌≡◌, ◌++◌, drop, map}
use Rattle.std.specs.List.{flat_map}
use Rattle.toml.specs.View.{view}
use Rattle.pyver_locks.specs.LockContents.{requirement_of}
use Rattle.pyver_locks.specs.PackageRequirements.{reference}
use Rattle.pyver_locks.proofs.package_requirements.push_references.Given as goal

abbrev pub invariant-loop-item : goal.invariant-loop-item
invariant-loop-item l =
    map requirement_of l.found.items ++ flat_map (reference l.line l.requirer) (map view (drop l.item-index l.list))
    ≡ map requirement_of l.initial.found.items ++ flat_map (reference l.line l.requirer) (map view l.list)
