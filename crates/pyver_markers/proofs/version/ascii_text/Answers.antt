use Rattle.std.proofs.Common.{◌∙◌, sym}
use Rattle.pyver_markers.proofs.Readings.{ascii_utf8}
use Rattle.pyver_markers.proofs.version.ascii_text.Goals as goal

pub returns-in-Ok-clause-ascii : goal.returns-in-Ok-clause-ascii
returns-in-Ok-clause-ascii c = (c.in-Ok.ensures.cases.0, sym c.is_ascii.ensures ∙ c.if-not-is_ascii.false)

pub returns-in-Err-clause-other : goal.returns-in-Err-clause-other
returns-in-Err-clause-other c = absurd (c.in-Err.ensures.cases.0 (ascii_utf8 c.args.text.now (sym c.is_ascii.ensures ∙ c.if-not-is_ascii.false)))
