use Rattle.std.proofs.Common.{◌≡◌, ◌++◌, ◌∙◌, subst, sym}
use Rattle.pep440_pick.specs.Allowed.{lists_of}
use Rattle.pep440_pick.specs.RequirementGrammar.{DerivesRequirement, RejectsRequirement}
use Rattle.pep440_tool.specs.Picks.{shown_requirement_error}
use Rattle.pep440_tool.specs.Answers.{RejectsFirst}
use Rattle.pep440_tool.specs.Lines.{LineDenotes, RejectsLine, numbered_lines}
use Rattle.pep440_tool.specs.LinesLeft.{left}
use Rattle.pep440_tool.proofs.Runs.{Found, found_more, found_none, found_rejected, lists_append, stopped}
use Rattle.pep440_tool.proofs.pick.parse_lists.Goals as goal

pub returns-in_err-list : goal.returns-in_err-list
returns-in_err-list c =
    stopped _ (RejectsLine RejectsRequirement shown_requirement_error (c.in-Some.line.number, c.in-Some.line.bytes.now)) (RejectsFirst (LineDenotes DerivesRequirement) (RejectsLine RejectsRequirement shown_requirement_error) (numbered_lines c.args.input.now))
    (λ a why. found_rejected (LineDenotes DerivesRequirement) (RejectsLine RejectsRequirement shown_requirement_error) _ _ (left c.in-Some.later) _ (c.in-Some.line.number, c.in-Some.line.bytes.now) a c.in-Some.ensures.next why c.loop-line.invariant)
    c.in_err-list.field-0.0 c.in_err-list.ensures c.from_residual.result c.from_residual.ensures.1

pub loop-line-preserved : goal.loop-line-preserved
loop-line-preserved c =
    found_more (LineDenotes DerivesRequirement) _ _ (left c.in-Some.later) (λ found. c.loop-line.lists.items ≡ lists_of c.args.name.now found) (λ found. c.push_list.new.lists.items ≡ lists_of c.args.name.now found)
    (c.in-Some.line.number, c.in-Some.line.bytes.now) c.in_ok-list.ensures.0 c.in-Some.ensures.next c.in_ok-list.ensures.1
    (λ xs is. c.in_ok-push_list.ensures ∙ (λ i. is i ++ c.in_ok-list.ensures.2 i) ∙ sym (lists_append c.args.name.now xs c.in_ok-list.ensures.0)) c.loop-line.invariant

pub loop-line-init : goal.loop-line-init
loop-line-init c = subst (λ ts. Found (LineDenotes DerivesRequirement) (numbered_lines c.args.input.now) ts (λ found. c.new-lists.result.items ≡ lists_of c.args.name.now found)) (sym c.new-lines.ensures)
    (found_none (LineDenotes DerivesRequirement) (numbered_lines c.args.input.now) (λ found. c.new-lists.result.items ≡ lists_of c.args.name.now found) c.new-lists.ensures.items)
