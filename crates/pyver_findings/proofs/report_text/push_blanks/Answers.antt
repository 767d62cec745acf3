use Rattle.pyver_requirements.proofs.Grouped.{blanks_more}
use Rattle.pyver_findings.proofs.report_text.push_blanks.Goals as goal

pub loop-character-preserved : goal.loop-character-preserved
loop-character-preserved c =
    blanks_more c.args.characters.now c.loop-character._character-index c.loop-character.bytes.items c.push.new.self.items _ c.loop-character-test.true c.in_ok-push.ensures.items c.loop-character.invariant
