use Rattle.std.proofs.Common.{◌≡◌, ◌∙◌}
use Rattle.std.proofs.lemmas.Result.{IfOk-weaker}
use Rattle.pep440_tool.specs.Answers.{shown}
use Rattle.pep440_tool.specs.AnswerValues.{answer_value}
use Rattle.pep440_tool.specs.Picks.{PrintsNewest}
use Rattle.pep440_tool.proofs.Runs.{shown_at}
use Rattle.pep440_tool.proofs.pick.print_newest.Goals as goal

pub returns-in_ok-to_string-in-Some : goal.returns-in_ok-to_string-in-Some
returns-in_ok-to_string-in-Some c =
    IfOk-weaker c.from_line.result (λ a. answer_value a ≡ shown c.as_str.result.now) (λ a. PrintsNewest c.args.lists.now c.args.versions.now (answer_value a))
    (λ a is. shown_at c.args.lists.now c.args.versions.now c.in-Some.position c.index-versions-position.result c.as_str.result.now (answer_value a) (rw c.in-Some.is at c.in_ok-position.ensures.newest)
    (rw c.in-Some.is at c.in_ok-position.ensures.inside) c.index-versions-position.is (c.as_str.ensures.value ∙ c.in_ok-to_string-in-Some.ensures.ok) is) c.from_line.ensures
