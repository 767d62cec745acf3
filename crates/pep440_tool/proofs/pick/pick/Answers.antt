use Rattle.std.proofs.Common.{◌∙◌, codes, inl, inr, map, refl, string_bytes, sym}
use Rattle.pep440_pick.specs.RequirementGrammar.{DerivesRequirement, RejectsRequirement}
use Rattle.pep440_tool.specs.Answers.{RejectsFirst}
use Rattle.pep440_tool.specs.Lines.{LineDenotes, RejectsLine, numbered_lines}
use Rattle.pep440_tool.specs.Picks.{PickAnswer, shown_requirement_error}
use Rattle.pep440_tool.specs.AnswerValues.{answer_value}
use Rattle.pep440_tool.proofs.Runs.{picked, stopped}
use Rattle.pep440_tool.proofs.pick.pick.Goals as goal

pub returns-then-not-is_name : goal.returns-then-not-is_name
returns-then-not-is_name c = λ lacks. (codes "name: not a valid name", refl, inl (sym c.is_name.ensures ∙ c.if-not-is_name.true, refl))

pub returns-in_err-lists : goal.returns-in_err-lists
returns-in_err-lists c =
    stopped _ (RejectsFirst (LineDenotes DerivesRequirement) (RejectsLine RejectsRequirement shown_requirement_error) (numbered_lines c.args.input.now)) (PickAnswer c.args.name.now (map string_bytes c.args.candidates.now) c.args.input.now)
    (λ a h. inr (sym c.is_name.ensures ∙ c.if-not-is_name.false, inl (c.in_ok-versions.versions.items, c.in_ok-versions.ensures, inr h))) c.in_err-lists.field-0.0 c.in_err-lists.ensures
    c.from_residual-in_err-lists.result c.from_residual-in_err-lists.ensures.1

pub returns : goal.returns
returns c =
    picked c.args.name.now (map string_bytes c.args.candidates.now) c.args.input.now c.in_ok-versions.versions.items c.as_slice-2.result.now c.in_ok-lists.lists.items c.as_slice.result.now (answer_value c.in_ok-print_newest.field-0)
    (sym c.is_name.ensures ∙ c.if-not-is_name.false) c.in_ok-versions.ensures c.in_ok-lists.ensures c.as_slice.ensures.value c.as_slice-2.ensures.value c.in_ok-print_newest.ensures
