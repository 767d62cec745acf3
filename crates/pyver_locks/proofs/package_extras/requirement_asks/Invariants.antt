use Rattle.std.proofs.Common.{◌≡◌, ◌++◌, drop, map}
use Rattle.std.specs.List.{flat_map}
use Rattle.pyver_locks.specs.LockContents.{requirement_of}
use Rattle.pyver_locks.specs.Locks.{plain_asks}
use Rattle.pyver_projects.specs.ProjectStrings.{inclusion_of}
use Rattle.pyver_locks.proofs.package_extras.requirement_asks.Given as goal

abbrev pub invariant-loop-requirement : goal.invariant-loop-requirement
invariant-loop-requirement l =
    map inclusion_of l.asks.items ++ flat_map plain_asks (map requirement_of (drop l.requirement-index l.requirements)) ≡ flat_map plain_asks (map requirement_of l.requirements)
