use Rattle.pyver_locks.proofs.Readings.{read_value_so}
use Rattle.pyver_locks.specs.KnownEnvironments.{known_environment}
use Rattle.pyver_locks.specs.LockContents.{parts_of}
use Rattle.pyver_locks.proofs.known_environment.evaluate_text.Goals as goal

pub returns-in-Ok : goal.returns-in-Ok
returns-in-Ok c =
    read_value_so (known_environment (parts_of c.args.parts.now) c.args.environment) c.args.marker.now _ c.evaluate_in.result c.in-Ok.ensures.found c.evaluate_in.ensures
