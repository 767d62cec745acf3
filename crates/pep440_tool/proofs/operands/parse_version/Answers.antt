use Rattle.std.proofs.Common.{refl}
use Rattle.pep440_version.specs.ErrorTexts.{rejection_text}
use Rattle.pep440_tool.proofs.Runs.{told}
use Rattle.pep440_tool.proofs.operands.parse_version.Goals as goal

pub returns-in-Err : goal.returns-in-Err
returns-in-Err c = λ lacks.
    let f = told c.args.word.now _ _ lacks c.in-Err.ensures.refused c.in-Err.ensures.message in
    (rejection_text f.0, f.2, (f.0, f.1, refl))
