use Rattle.pyver_findings.proofs.StringReadings.{another_byte, no_other_byte, plain_utf8}
use Rattle.pyver_findings.proofs.plain.plain_text.Goals as goal

pub returns-then-count-text-clause-other : goal.returns-then-count-text-clause-other
returns-then-count-text-clause-other c =
    (another_byte c.args.text.now c.count_plain_bytes-count.result c.count_plain_bytes-count.ensures.count c.if-count-text.true, c.count_plain_bytes-count.ensures.count)

pub returns-in-Ok-clause-plain : goal.returns-in-Ok-clause-plain
returns-in-Ok-clause-plain c =
    (c.in-Ok.ensures.cases.0, no_other_byte c.args.text.now c.count_plain_bytes-count.result c.count_plain_bytes-count.ensures.count c.if-count-text.false)

pub returns-in-Err-clause-other : goal.returns-in-Err-clause-other
returns-in-Err-clause-other c =
    let plain = no_other_byte c.args.text.now c.count_plain_bytes-count.result c.count_plain_bytes-count.ensures.count c.if-count-text.false in
    absurd (c.in-Err.ensures.cases.0 (plain_utf8 c.args.text.now plain))
