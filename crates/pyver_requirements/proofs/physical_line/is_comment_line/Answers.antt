use Rattle.std.proofs.Common.{◌∙◌, ap}
use Rattle.pep440_rs.proofs.Blanks.{start_trimmed}
use Rattle.pep440_rs.specs.Blanks.{opens}
use Rattle.pyver_requirements.proofs.physical_line.is_comment_line.Goals as goal

pub returns : goal.returns
returns c = c.opens_with_hash.ensures ∙ ap (opens 35) (start_trimmed c.args.line.now c.trim_ascii_start.result.now c.trim_ascii_start.ensures.value)
