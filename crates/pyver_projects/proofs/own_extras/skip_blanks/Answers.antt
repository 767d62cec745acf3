use Rattle.pep440_rs.proofs.Blanks.{start_trimmed}
use Rattle.pyver_projects.proofs.own_extras.skip_blanks.Goals as goal

pub returns : goal.returns
returns c = start_trimmed c.args.text.now c.trim_ascii_start.result.now c.trim_ascii_start.ensures.value
