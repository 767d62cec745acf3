use Rattle.std.proofs.Common.{refl}
use Rattle.pep440_rs.specs.Lists.ListErrorTexts.{list_rejection_text}
use Rattle.pep440_tool.proofs.Runs.{told_list}
use Rattle.pep440_tool.proofs.operands.parse_list.Goals as goal

pub returns-in-Err : goal.returns-in-Err
returns-in-Err c = λ lacks.
    let f = told_list c.args.word.now _ _ _ lacks c.in-Err.ensures.lifted c.in-Err.ensures.refused c.in-Err.ensures.message in
    (list_rejection_text f.0 c.args.word.now, f.2, (f.0, f.1, refl))
