use Rattle.std.proofs.Common.{◌≡◌, ◌++◌, drop, map}
use Rattle.std.specs.List.{flat_map}
use Rattle.toml.specs.View.{view}
use Rattle.pyver_locks.specs.LockContents.{locked_extra_of}
use Rattle.pyver_locks.specs.PackageRequirements.{extra_items}
use Rattle.pyver_locks.proofs.package_extras.push_items.Given as goal

abbrev pub invariant-loop-item : goal.invariant-loop-item
invariant-loop-item l =
    map locked_extra_of l.found.items ++ flat_map (extra_items l.line l.requirer l.key) (map view (drop l.item-index l.list))
    ≡ map locked_extra_of l.initial.found.items ++ flat_map (extra_items l.line l.requirer l.key) (map view l.list)
