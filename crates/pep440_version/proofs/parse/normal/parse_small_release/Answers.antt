use Rattle.std.proofs.Common.{arith}
use Rattle.pep440_version.proofs.Reading.NormalParts.{number_more, one_number}
use Rattle.pep440_version.proofs.parse.normal.parse_small_release.Goals as goal

pub loop-count-init : goal.loop-count-init
loop-count-init c = one_number c.args.text.now c.in_ok-first.rest.now c.in_ok-first.first c.in_ok-first.ensures.number

pub loop-count-preserved : goal.loop-count-preserved
loop-count-preserved c =
    number_more c.args.text.now c.loop-count.rest.now c.in-Some.after.now c.loop-count.numbers c.loop-count.count c.in-Some.number (omega arith) c.loop-count.invariant c.in-Some.ensures
