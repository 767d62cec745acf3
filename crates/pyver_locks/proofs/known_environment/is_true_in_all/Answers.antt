use Rattle.pyver_locks.proofs.Readings.{all_fail, all_hold}
use Rattle.pyver_locks.specs.KnownEnvironments.{is_true_in}
use Rattle.pyver_locks.specs.LockContents.{parts_of}
use Rattle.pyver_locks.specs.declared.known_environment.KnownEnvironment.{KnownEnvironment}
use Rattle.pyver_locks.proofs.known_environment.is_true_in_all.Goals as goal

pub returns-then-not-branch : goal.returns-then-not-branch
returns-then-not-branch c =
    all_fail (λ (k : KnownEnvironment). is_true_in (parts_of c.args.parts.now) k c.args.marker.now) c.args.environments.now c.loop-environment.environment-index _ c.in_ok-is_true_in.field-0 c.loop-environment-test.true
    c.in_ok-is_true_in.ensures c.loop-environment.invariant c.if-not-branch.true

pub loop-environment-preserved : goal.loop-environment-preserved
loop-environment-preserved c =
    all_hold (λ (k : KnownEnvironment). is_true_in (parts_of c.args.parts.now) k c.args.marker.now) c.args.environments.now c.loop-environment.environment-index _ c.in_ok-is_true_in.field-0 c.loop-environment-test.true
    c.in_ok-is_true_in.ensures c.loop-environment.invariant c.if-not-branch.false
