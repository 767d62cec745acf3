use Rattle.std.proofs.Common.{◌≡◌, ◌++◌, drop, map}
use Rattle.std.specs.List.{flat_map}
use Rattle.toml.specs.View.{view}
use Rattle.pyver_locks.specs.LockContents.{fault_of}
use Rattle.pyver_locks.specs.LockedFiles.{ambiguous_item}
use Rattle.pyver_projects.specs.ProjectStrings.{indexed_names}
use Rattle.pyver_locks.proofs.lock_faults.push_ambiguous_items.Given as goal

abbrev pub invariant-loop-item : goal.invariant-loop-item
invariant-loop-item l =
    map fault_of l.faults.items ++ flat_map (ambiguous_item (indexed_names l.names) l.line l.requirer) (map view (drop l.item-index l.list))
    ≡ map fault_of l.initial.faults.items ++ flat_map (ambiguous_item (indexed_names l.names) l.line l.requirer) (map view l.list)
