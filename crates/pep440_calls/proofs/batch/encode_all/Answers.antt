use Rattle.pep440_calls.proofs.Placed.{encodings_more, joined_more, stops_at}
use Rattle.pep440_calls.proofs.batch.encode_all.Goals as goal
use Rattle.pep440_calls.specs.Batches.{encoding_bytes}

pub returns-in-Err : goal.returns-in-Err
returns-in-Err c = stops_at c.args.texts.now c.loop-position.position _ c.in-Err.fault c.from_fault.result c.loop-position.invariant.0 c.loop-position-test.true c.from_fault.ensures c.in-Err.ensures c.loop-position.invariant.1

pub loop-position-preserved : goal.loop-position-preserved
loop-position-preserved c =
    let pushed = c.in-Ok.ensures in
    encodings_more (encoding_bytes c.args.encoding) c.args.texts.now c.loop-position.position _ c.loop-position.joined.bytes.items c.push_encoding.new.joined.bytes.items c.loop-position.joined.ends.items c.push_encoding.new.joined.ends.items
    pushed.0 c.loop-position-test.true pushed.1
    (λ l. joined_more l (encoding_bytes c.args.encoding pushed.0) c.loop-position.joined.bytes.items c.push_encoding.new.joined.bytes.items c.loop-position.joined.ends.items c.push_encoding.new.joined.ends.items pushed.2 pushed.3)
    c.loop-position.invariant
