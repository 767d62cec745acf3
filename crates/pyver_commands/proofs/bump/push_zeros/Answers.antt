use Rattle.pyver_commands.proofs.CommandLaws.{zeros_more}
use Rattle.pyver_commands.proofs.bump.push_zeros.Goals as goal

pub loop-number-preserved : goal.loop-number-preserved
loop-number-preserved c = zeros_more c.args.replaced.now c.loop-number._number-index _ _ _ c.loop-number-test.true c.loop-number.invariant c.in_ok-push.ensures.items
