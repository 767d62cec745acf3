use Rattle.pyver_markers.proofs.BoxLaws.{multiplied}
use Rattle.pyver_markers.proofs.environment_box.multiply.Goals as goal

pub loop-rest-preserved : goal.loop-rest-preserved
loop-rest-preserved c =
    multiplied c.loop-rest.all.items _ c.one-item.result c.loop-rest.rest.now c.args.boxes.now c.args.others.now c.in-len1-up.len_at_least c.one-item.is
    c.in_ok-push_intersections.ensures c.loop-rest.invariant
