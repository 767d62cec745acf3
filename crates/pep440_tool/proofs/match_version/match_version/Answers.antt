use Rattle.std.proofs.Common.{inl, inr}
use Rattle.pep440_tool.specs.Answers.{MatchAnswer, RejectsListWord, RejectsWord}
use Rattle.pep440_tool.proofs.Runs.{stopped}
use Rattle.pep440_tool.proofs.match_version.match_version.Goals as goal

pub returns-in_err-list : goal.returns-in_err-list
returns-in_err-list c = stopped _ (RejectsListWord c.args.list.now) (MatchAnswer c.args.list.now c.args.word.now) (λ a h. inr h) c.in_err-list.field-0.0 c.in_err-list.ensures c.from_residual.result c.from_residual.ensures.1

pub returns-in_err-version : goal.returns-in_err-version
returns-in_err-version c = stopped _ (RejectsWord c.args.word.now) (MatchAnswer c.args.list.now c.args.word.now) (λ a h. inl (c.in_ok-list.list, c.in_ok-list.ensures, inr h)) c.in_err-version.field-0.0 c.in_err-version.ensures
    c.from_residual-in_err-version.result c.from_residual-in_err-version.ensures.1
