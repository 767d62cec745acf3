use Rattle.pep440_calls.proofs.Placed.{views_more}
use Rattle.pep440_calls.proofs.batch.view_encodings.Goals as goal
use Rattle.pep440_calls.specs.Batches.{encoding_bytes}

pub loop-text-preserved : goal.loop-text-preserved
loop-text-preserved c =
    let read = c.in-Ok.ensures in
    views_more (encoding_bytes c.args.encoding) c.args.texts.now c.loop-text.text-index _ c.loop-text.found.items c.push.new.self.items c.in-Ok.view read.0 c.loop-text-test.true read.1 read.2 c.in_ok-push.ensures.items c.loop-text.invariant
