use Rattle.std.proofs.Common.{◌≡◌, ◌++◌, drop, map}
use Rattle.std.specs.List.{flat_map}
use Rattle.toml.specs.View.{view}
use Rattle.pyver_locks.specs.LockedFiles.{counted_names}
use Rattle.pyver_locks.proofs.lock_faults.counted_names.Given as goal

abbrev pub invariant-loop-table : goal.invariant-loop-table
invariant-loop-table l =
    map (λ n. n.items) l.names.items ++ flat_map (counted_names l.kind) (map view (drop l.table-index l.tables))
    ≡ flat_map (counted_names l.kind) (map view l.tables)
