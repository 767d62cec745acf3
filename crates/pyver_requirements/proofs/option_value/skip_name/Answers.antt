use Rattle.std.proofs.Common.{arith}
use Rattle.std.proofs.lemmas.Grind.{common_steps}
use Rattle.pep440_rs.proofs.Blanks.{start_trimmed}
use Rattle.pyver_requirements.proofs.option_value.skip_name.Goals as goal

pub returns-else-starts_with : goal.returns-else-starts_with
returns-else-starts_with c =
    let e = start_trimmed c.skip_short_name.result.now c.trim_ascii_start.result.now c.trim_ascii_start.ensures.value in
    grind (arith, common_steps)
