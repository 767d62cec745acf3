use Rattle.std.proofs.Common.{refl, subst, sym}
use Rattle.pyver_tool.proofs.RunEnds.{ends_unanswered}
use Rattle.pyver_tool.specs.TaskViews.{AnswerEnds}
use Rattle.pyver_tool.proofs.program.write_result.Goals as goal

pub returns-in-Ok : goal.returns-in-Ok
returns-in-Ok g c =
    subst (λ answer. AnswerEnds answer g.W.Write.contents g.E.Write.contents c.args.out.now c.write_answer.new.out c.args.err.now c.write_answer.new.err c.write_answer.result) (sym c.in-Ok.is) c.write_answer.ensures

pub returns-in-Err : goal.returns-in-Err
returns-in-Err g c =
    let last = c.report_run_failure.ensures in
    subst (λ answer. AnswerEnds answer g.W.Write.contents g.E.Write.contents c.args.out.now c.args.out.now c.args.err.now c.report_run_failure.new.err c.report_run_failure.result) (sym c.in-Err.is)
    (ends_unanswered g.W.Write.contents g.E.Write.contents c.args.out.now c.args.out.now c.args.err.now c.report_run_failure.new.err c.report_run_failure.result c.in-Err.failure last.0 last.1 refl last.2)
