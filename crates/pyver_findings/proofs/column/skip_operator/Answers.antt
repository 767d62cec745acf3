use Rattle.std.proofs.Common.{arith}
use Rattle.std.proofs.lemmas.Grind.{common_steps}
use Rattle.pep440_rs.proofs.Blanks.{start_trimmed}
use Rattle.pyver_findings.proofs.column.skip_operator.Goals as goal

pub returns-then-is_operator : goal.returns-then-is_operator
returns-then-is_operator c =
    let e = start_trimmed _ c.trim_ascii_start.result.now c.trim_ascii_start.ensures.value in
    grind (arith, common_steps)
