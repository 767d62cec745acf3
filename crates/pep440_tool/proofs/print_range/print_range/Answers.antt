use Rattle.std.proofs.Common.{Err, ap, inr}
use Rattle.pep440_tool.specs.Answers.{RangeAnswer, RejectsListWord}
use Rattle.pep440_tool.proofs.Runs.{stopped, told_range}
use Rattle.pep440_tool.proofs.print_range.print_range.Goals as goal

pub returns-in_err-list : goal.returns-in_err-list
returns-in_err-list c = stopped _ (RejectsListWord c.args.word.now) (RangeAnswer c.args.word.now) (λ a h. inr h) c.in_err-list.field-0.0 c.in_err-list.ensures c.from_residual.result c.from_residual.ensures.1

pub returns-in-Err : goal.returns-in-Err
returns-in-Err c = told_range c.args.word.now c.in_ok-list.list c.in-Err.error c.in_ok-list.ensures (λ is. c.in-Err.ensures.refused (ap Err is))
