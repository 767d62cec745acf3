use Rattle.pep440_rs.proofs.Blanks.{both_trimmed}
use Rattle.pyver_markers.proofs.version.trim_blanks.Goals as goal

pub returns : goal.returns
returns c = both_trimmed c.args.text.now c.trim_ascii.result.now c.trim_ascii.ensures.value
