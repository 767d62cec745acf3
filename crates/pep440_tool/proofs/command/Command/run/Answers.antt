use Rattle.std.proofs.Common.{map, string_bytes, subst, sym}
use Rattle.pep440_tool.specs.Answers.{CompareAnswer, EditAnswer, MatchAnswer}
use Rattle.pep440_tool.specs.Commands.{IsAnswer}
use Rattle.pep440_tool.specs.Picks.{PickAnswer}
use Rattle.pep440_tool.specs.AnswerValues.{request}
use Rattle.pep440_tool.proofs.Runs.{answered_weaker}
use Rattle.pep440_tool.proofs.command.Command.run.Goals as goal

pub returns-in-Compare : goal.returns-in-Compare
returns-in-Compare c = answered_weaker (CompareAnswer c.in-Compare.left.now c.in-Compare.right.now) (IsAnswer (request c.args.self) c.args.input.now)
    (λ a h. subst (λ k. IsAnswer (request k) c.args.input.now a) (sym c.in-Compare.is) h) c.compare.result c.compare.ensures

pub returns-in-Match : goal.returns-in-Match
returns-in-Match c = answered_weaker (MatchAnswer c.in-Match.list.now c.in-Match.version.now) (IsAnswer (request c.args.self) c.args.input.now)
    (λ a h. subst (λ k. IsAnswer (request k) c.args.input.now a) (sym c.in-Match.is) h) c.match_version.result c.match_version.ensures

pub returns-in-Edit : goal.returns-in-Edit
returns-in-Edit c = answered_weaker (EditAnswer c.in-Edit.version.now (map string_bytes c.in-Edit.changes.now)) (IsAnswer (request c.args.self) c.args.input.now)
    (λ a h. subst (λ k. IsAnswer (request k) c.args.input.now a) (sym c.in-Edit.is) h) c.edit.result c.edit.ensures

pub returns-in-Pick : goal.returns-in-Pick
returns-in-Pick c = answered_weaker (PickAnswer c.in-Pick.name.now (map string_bytes c.in-Pick.candidates.now) c.args.input.now) (IsAnswer (request c.args.self) c.args.input.now)
    (λ a h. subst (λ k. IsAnswer (request k) c.args.input.now a) (sym c.in-Pick.is) h) c.pick.result c.pick.ensures
