use Rattle.std.proofs.Common.{◌≡◌, Ok, Err, Some}
use Rattle.std.specs.Prelude.{IfErr, IfSome}
use Rattle.pep440_rs.proofs.Reading.Passed.{passed}
use Rattle.pep440_pick.specs.RequirementGrammar.{RejectsRequirement}
use Rattle.pep440_pick.specs.Requirements.{IsRequirementLifted, ReturnsRequirement, requirement_rejection_of, requirement_rejection_text, requirement_text_of}
use Rattle.pep440_pick.proofs.Once.{only_answer, only_refusal}
use Rattle.pep440_pick.proofs.requirement.Requirement.from_str.Goals as goal

pub returns-clause-only : goal.returns-clause-only
returns-clause-only c = only_answer c.args.text.now (Ok c.in_ok-parse.field-0) c.in_ok-parse.ensures.found tt

pub returns-clause-decided : goal.returns-clause-decided
returns-clause-decided c = only_refusal c.args.text.now (Ok c.in_ok-parse.field-0) c.in_ok-parse.ensures.found tt

pub returns-in_err-parse-clause-only : goal.returns-in_err-parse-clause-only
returns-in_err-parse-clause-only c = λ n d.
    let kind = c.in_err-parse.field-0.0.kind in
    passed (λ r. ReturnsRequirement r (Ok n)) c.from_residual.result kind c.from_residual.ensures.1 (only_answer c.args.text.now (Err kind) tt c.in_err-parse.ensures.refused n d)

pub returns-in_err-parse-clause-decided : goal.returns-in_err-parse-clause-decided
returns-in_err-parse-clause-decided c = λ f h.
    let kind = c.in_err-parse.field-0.0.kind in
    passed (λ r. ReturnsRequirement r (Err f)) c.from_residual.result kind c.from_residual.ensures.1 (only_refusal c.args.text.now (Err kind) tt c.in_err-parse.ensures.refused f h)

pub returns-in_err-parse-clause-refused : goal.returns-in_err-parse-clause-refused
returns-in_err-parse-clause-refused c =
    passed (λ r. IfErr r (λ e. IfSome (requirement_rejection_of e) (RejectsRequirement c.args.text.now))) c.from_residual.result c.in_err-parse.field-0.0.kind c.from_residual.ensures.1 c.in_err-parse.ensures.refused

pub returns-in_err-parse-clause-message : goal.returns-in_err-parse-clause-message
returns-in_err-parse-clause-message c =
    passed (λ r. IfErr r (λ e. IfSome (requirement_rejection_of e) (λ f. requirement_text_of e ≡ Some (requirement_rejection_text f)))) c.from_residual.result c.in_err-parse.field-0.0.kind c.from_residual.ensures.1 c.in_err-parse.ensures.message

pub returns-in_err-parse-clause-lifted : goal.returns-in_err-parse-clause-lifted
returns-in_err-parse-clause-lifted c = passed (λ r. IfErr r IsRequirementLifted) c.from_residual.result c.in_err-parse.field-0.0.kind c.from_residual.ensures.1 c.in_err-parse.ensures.lifted
