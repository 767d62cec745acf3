use Rattle.std.proofs.Common.{◌∙◌, sym}
use Rattle.pyver_findings.proofs.StringReadings.{folder_other, folder_slash}
use Rattle.pyver_findings.proofs.named_files.folder.Goals as goal

pub returns-then-last-eq47 : goal.returns-then-last-eq47
returns-then-last-eq47 c = sym (c.loop-front.invariant ∙ folder_slash c.loop-front.front.now c.in-len1-up.len_at_least c.if-last-eq47.true)

pub loop-front-preserved : goal.loop-front-preserved
loop-front-preserved c = c.loop-front.invariant ∙ folder_other c.loop-front.front.now c.in-len1-up.len_at_least c.if-last-eq47.false
