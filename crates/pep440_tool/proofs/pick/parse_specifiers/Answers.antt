use Rattle.std.proofs.Common.{ap, inr, subst}
use Rattle.std.specs.Prelude.{option_map}
use Rattle.pep440_pick.specs.RequirementGrammar.{DerivesRequirement, RejectsRequirement}
use Rattle.pep440_pick.specs.Requirements.{requirement_rejection_text}
use Rattle.pep440_tool.specs.Answers.{line_fault_text}
use Rattle.pep440_tool.specs.Lines.{RejectsLine}
use Rattle.pep440_tool.specs.Picks.{shown_requirement_error}
use Rattle.pep440_tool.proofs.Runs.{not_text, stopped, told_requirement}
use Rattle.pep440_tool.proofs.pick.parse_specifiers.Goals as goal

pub returns-in_err-text : goal.returns-in_err-text
returns-in_err-text c =
    let R = RejectsLine RejectsRequirement shown_requirement_error (c.args.line.number, c.args.line.bytes.now) in
    stopped _ R R (λ a h. h) c.in_err-text.field-0.0 (not_text RejectsRequirement shown_requirement_error c.args.line.number c.args.line.bytes.now c.in_err-text.field-0.0 c.in_err-text.ensures)
    c.from_residual.result c.from_residual.ensures.1

pub returns-in-Err : goal.returns-in-Err
returns-in-Err c = λ lacks.
    let f = told_requirement c.args.line.bytes.now c.args.line.number c.in-Err.error _ lacks c.in-Err.ensures.lifted (rw c.in_ok-text.ensures.0 at c.in-Err.ensures.refused) c.in-Err.ensures.message in
    (line_fault_text c.args.line.number (requirement_rejection_text f.0), ap (option_map (line_fault_text c.args.line.number)) f.2, inr (c.in_ok-text.ensures.1, (f.0, f.1, f.3)))

pub returns-in-Ok : goal.returns-in-Ok
returns-in-Ok c =
    let found = c.in-Ok.ensures.found in
    (found.0, (c.in_ok-text.ensures.1, subst (λ bytes. DerivesRequirement bytes found.0) c.in_ok-text.ensures.0 found.1), found.2)
