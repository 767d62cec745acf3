use Rattle.std.proofs.Common.{◌≡◌, ◌++◌, drop, map}
use Rattle.std.specs.List.{flat_map}
use Rattle.pyver_locks.specs.LockContents.{locked_extra_of}
use Rattle.pyver_locks.specs.Locks.{optional_asks}
use Rattle.pyver_projects.specs.ProjectStrings.{inclusion_of}
use Rattle.pyver_locks.proofs.package_extras.push_extra_asks.Given as goal

abbrev pub invariant-loop-extra : goal.invariant-loop-extra
invariant-loop-extra l =
    map inclusion_of l.asks.items ++ flat_map optional_asks (map locked_extra_of (drop l.extra-index l.extras)) ≡ map inclusion_of l.initial.asks.items ++ flat_map optional_asks (map locked_extra_of l.extras)
