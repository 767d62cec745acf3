use Rattle.std.proofs.Common.{◌∙◌}
use Rattle.std.specs.Prelude.{IfErr, IfSome}
use Rattle.pep440_rs.proofs.Reading.Passed.{passed}
use Rattle.pep440_pick.specs.Requirements.{IsPositioned, needed, prefix_of, requirement_rejection_of}
use Rattle.pep440_pick.specs.RequirementGrammar.{RejectsRequirement}
use Rattle.pep440_pick.proofs.Whole.{at_list, prefix_err_refused, list_err_refused, list_ok_found}
use Rattle.pep440_pick.proofs.requirement.Requirement.parse.Goals as goal

pub returns-in_err-parts-clause-refused : goal.returns-in_err-parts-clause-refused
returns-in_err-parts-clause-refused c =
    passed (λ r. IfErr r (λ e. IfSome (requirement_rejection_of e.kind) (RejectsRequirement c.args.text.now))) c.from_residual.result c.in_err-parts.field-0.0 c.from_residual.ensures.1
    (prefix_err_refused c.args.text.now (requirement_rejection_of c.in_err-parts.field-0.0.kind) c.in_err-parts.ensures.value)

pub returns-in_err-specifiers-clause-refused : goal.returns-in_err-specifiers-clause-refused
returns-in_err-specifiers-clause-refused c =
    passed (λ r. IfErr r (λ e. IfSome (requirement_rejection_of e.kind) (RejectsRequirement c.args.text.now))) c.from_residual-in_err-specifiers.result c.in_err-specifiers.field-0.0 c.from_residual-in_err-specifiers.ensures.1
    (list_err_refused c.args.text.now (prefix_of c.in_ok-parts.parts) c.in_ok-parts.ensures.value (requirement_rejection_of c.in_err-specifiers.field-0.0.kind) c.in_err-specifiers.ensures.refused)

pub returns-in_err-specifiers-clause-position : goal.returns-in_err-specifiers-clause-position
returns-in_err-specifiers-clause-position c =
    passed (λ r. IfErr r (IsPositioned c.args.text.now)) c.from_residual-in_err-specifiers.result c.in_err-specifiers.field-0.0 c.from_residual-in_err-specifiers.ensures.1
    (at_list c.args.text.now c.in_ok-parts.parts.list.now (requirement_rejection_of c.in_err-specifiers.field-0.0.kind) c.in_err-specifiers.field-0.0.position
    (c.in_err-specifiers.ensures.position ∙ c.in_ok-parts.ensures.list) c.in_err-specifiers.ensures.refused)

pub returns-clause-found : goal.returns-clause-found
returns-clause-found c =
    list_ok_found c.args.text.now (prefix_of c.in_ok-parts.parts) c.in_ok-parts.ensures.value (needed (record { name = c.in_ok-name.name; extras = c.in_ok-extras.extras; specifiers = c.in_ok-specifiers.specifiers })) c.in_ok-name.ensures.ok c.in_ok-extras.ensures c.in_ok-specifiers.ensures.found
