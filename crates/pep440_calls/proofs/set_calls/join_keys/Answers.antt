use Rattle.pep440_calls.proofs.Placed.{next_joined}
use Rattle.pep440_calls.proofs.set_calls.join_keys.Goals as goal

pub loop-key-preserved : goal.loop-key-preserved
loop-key-preserved c = next_joined c.args.keys.now c.loop-key.key-index _ c.loop-key.found.bytes.items c.push.new.self.bytes.items c.loop-key.found.ends.items c.push.new.self.ends.items c.loop-key-test.true
    c.in_ok-push.ensures.bytes c.in_ok-push.ensures.ends c.loop-key.invariant
