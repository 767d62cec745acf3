use Rattle.pep440_calls.proofs.Placed.{change_refused, changes_more}
use Rattle.pep440_calls.proofs.edits.read_changes.Goals as goal

pub returns-in-Err-NotAChange : goal.returns-in-Err-NotAChange
returns-in-Err-NotAChange c text r means = (
  r,
  means,
  change_refused c.args.words.now c.loop-position.position _ c.loop-position.changes.items c.loop-position-test.true (c.in-Err-NotAChange.ensures.err c.in-Err-NotAChange.field-0-is) c.loop-position.invariant,
)

pub loop-position-preserved : goal.loop-position-preserved
loop-position-preserved c =
    changes_more c.args.words.now c.loop-position.position _ c.loop-position.changes.items c.push.new.self.items c.in-Ok.change c.loop-position-test.true c.in-Ok.ensures.ok c.in_ok-push-in-Ok.ensures.items c.loop-position.invariant
