use Rattle.std.proofs.Common.{inr}
use Rattle.pep440_tool.specs.Answers.{RejectsWord, ShowAnswer}
use Rattle.pep440_tool.proofs.Runs.{stopped}
use Rattle.pep440_tool.proofs.show_version.show_version.Goals as goal

pub returns-in_err-version : goal.returns-in_err-version
returns-in_err-version c = stopped _ (RejectsWord c.args.word.now) (ShowAnswer c.args.word.now) (λ a h. inr h) c.in_err-version.field-0.0 c.in_err-version.ensures c.from_residual.result c.from_residual.ensures.1
