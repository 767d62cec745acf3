use Rattle.std.proofs.Common.{◌≡◌, ◌++◌, drop, map}
use Rattle.toml.specs.View.{view}
use Rattle.pyver_locks.specs.Locks.{package_parts}
use Rattle.pyver_locks.specs.declared.lock_kind.LockKind.TheVariants.{Poetry}
use Rattle.pyver_locks.proofs.lock_faults.push_group_names.Given as goal

abbrev pub invariant-loop-table : goal.invariant-loop-table
invariant-loop-table l =
    map (λ n. n.items) l.names.items ++ package_parts Poetry (map view (drop l.table-index l.packages)) ≡ map (λ n. n.items) l.initial.names.items ++ package_parts Poetry (map view l.packages)
