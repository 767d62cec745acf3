use Rattle.std.proofs.Common.{◌≡◌, ◌++◌, Some, drop, map}
use Rattle.std.specs.List.{flat_map}
use Rattle.toml.specs.View.{view}
use Rattle.pyver_locks.specs.LockedFiles.{package_name_in}
use Rattle.pyver_locks.proofs.lock_faults.push_names.Given as goal

abbrev pub invariant-loop-item : goal.invariant-loop-item
invariant-loop-item l =
    map (λ n. n.items) l.names.items ++ flat_map (λ d. package_name_in (Some d)) (map view (drop l.item-index l.list))
    ≡ map (λ n. n.items) l.initial.names.items ++ flat_map (λ d. package_name_in (Some d)) (map view l.list)
