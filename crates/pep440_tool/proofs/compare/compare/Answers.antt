use Rattle.std.proofs.Common.{inl, inr}
use Rattle.pep440_tool.specs.Answers.{CompareAnswer, RejectsWord}
use Rattle.pep440_tool.proofs.Runs.{stopped}
use Rattle.pep440_tool.proofs.compare.compare.Goals as goal

pub returns-in_err-first : goal.returns-in_err-first
returns-in_err-first c = stopped _ (RejectsWord c.args.left.now) (CompareAnswer c.args.left.now c.args.right.now) (λ a h. inr h) c.in_err-first.field-0.0 c.in_err-first.ensures c.from_residual.result c.from_residual.ensures.1

pub returns-in_err-second : goal.returns-in_err-second
returns-in_err-second c = stopped _ (RejectsWord c.args.right.now) (CompareAnswer c.args.left.now c.args.right.now) (λ a h. inl (c.in_ok-first.first, c.in_ok-first.ensures, inr h)) c.in_err-second.field-0.0 c.in_err-second.ensures
    c.from_residual-in_err-second.result c.from_residual-in_err-second.ensures.1
