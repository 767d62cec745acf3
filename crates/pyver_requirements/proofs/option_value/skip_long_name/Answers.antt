use Rattle.std.proofs.Common.{arith}
use Rattle.std.proofs.lemmas.Grind.{common_steps}
use Rattle.pep440_rs.proofs.Blanks.{start_trimmed}
use Rattle.pyver_requirements.proofs.option_value.skip_long_name.Goals as goal

pub returns-in-len1-up : goal.returns-in-len1-up
returns-in-len1-up c =
    let e = start_trimmed _ c.trim_ascii_start.result.now c.trim_ascii_start.ensures.value in
    grind (arith, common_steps)
