use Rattle.std.proofs.Common.{arith}
use Rattle.pep440_calls.proofs.Placed.{copied_more, next_inside}
use Rattle.pep440_calls.proofs.buffer.copy_strings.Goals as goal

pub slice_bounds-copy_from_slice-end : goal.slice_bounds-copy_from_slice-end
slice_bounds-copy_from_slice-end c =
    let held = c.loop-position.invariant in
    next_inside c.args.strings.now c.loop-position.position held.0 held.1 c.loop-position.out c.args.out.now c.loop-position.start c.loop-position-test.true c.requires.bytes held.2 held.3 held.5 _

pub loop-position-preserved : goal.loop-position-preserved
loop-position-preserved c =
    let held = c.loop-position.invariant in
    copied_more c.args.strings.now c.loop-position.position _ held.0 held.1 c.loop-position.out c.copy_from_slice.new.self c.args.out.now c.loop-position.ends c.args.ends.now c.loop-position.start _
    c.loop-position-test.true c.requires.ends held.2 held.3 held.4 held.5 held.6 c.copy_from_slice.ensures.after (omega arith)
