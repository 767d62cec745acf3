use Rattle.std.proofs.Common.{◌≡◌, drop}
use Rattle.std.specs.List.{list_all}
use Rattle.pyver_locks.specs.KnownEnvironments.{is_true_in}
use Rattle.pyver_locks.specs.LockContents.{parts_of}
use Rattle.pyver_locks.specs.declared.known_environment.KnownEnvironment.{KnownEnvironment}
use Rattle.pyver_locks.proofs.known_environment.is_true_in_all.Given as goal

abbrev pub invariant-loop-environment : goal.invariant-loop-environment
invariant-loop-environment l =
    let holds = λ (k : KnownEnvironment). is_true_in (parts_of l.parts) k l.marker in
    list_all holds l.environments ≡ list_all holds (drop l.environment-index l.environments)
