use Rattle.std.proofs.Common.{◌≡◌, ◌∙◌, Some, false, refl, sym, true}
use Rattle.pep440_rs.proofs.Reading.Passed.{passed}
use Rattle.pep440_pick.specs.Requirements.{IsRequirementLifted, prefix_of, requirement_rejection_of, requirement_rejection_text, requirement_text_of}
use Rattle.pep440_pick.specs.RequirementGrammar.{Needed, RejectsRequirement}
use Rattle.std.specs.Prelude.{IfErr, IfSome}
use Rattle.pep440_pick.proofs.Whole.{prefix_err_refused, list_err_refused, list_ok_found, of_name}
use Rattle.pep440_pick.proofs.requirement.Requirement.specifiers_for.Goals as goal

pub returns-in_err-parts-clause-refused : goal.returns-in_err-parts-clause-refused
returns-in_err-parts-clause-refused c =
    passed (λ r. IfErr r (λ e. IfSome (requirement_rejection_of e) (RejectsRequirement c.args.text.now))) c.from_residual.result c.in_err-parts.field-0.0.kind c.from_residual.ensures.1
    (prefix_err_refused c.args.text.now (requirement_rejection_of c.in_err-parts.field-0.0.kind) c.in_err-parts.ensures.value)

pub returns-in_err-specifiers-clause-refused : goal.returns-in_err-specifiers-clause-refused
returns-in_err-specifiers-clause-refused c =
    passed (λ r. IfErr r (λ e. IfSome (requirement_rejection_of e) (RejectsRequirement c.args.text.now))) c.from_residual-in_err-specifiers.result c.in_err-specifiers.field-0.0.kind c.from_residual-in_err-specifiers.ensures.1
    (list_err_refused c.args.text.now (prefix_of c.in_ok-parts.parts) c.in_ok-parts.ensures.value (requirement_rejection_of c.in_err-specifiers.field-0.0.kind) c.in_err-specifiers.ensures.refused)

pub returns-then-same_name-clause-found : goal.returns-then-same_name-clause-found
returns-then-same_name-clause-found c =
    let n : Needed = (record { name = (prefix_of c.in_ok-parts.parts).name; extras = (prefix_of c.in_ok-parts.parts).extras; specifiers = c.in_ok-specifiers.specifiers }) in
    (n, list_ok_found c.args.text.now (prefix_of c.in_ok-parts.parts) c.in_ok-parts.ensures.value n refl refl c.in_ok-specifiers.ensures.found, of_name n c.args.name.now true (sym c.same_name.ensures ∙ c.if-same_name.true))

pub returns-else-same_name-clause-found : goal.returns-else-same_name-clause-found
returns-else-same_name-clause-found c =
    let n : Needed = (record { name = (prefix_of c.in_ok-parts.parts).name; extras = (prefix_of c.in_ok-parts.parts).extras; specifiers = c.in_ok-specifiers.specifiers }) in
    (n, list_ok_found c.args.text.now (prefix_of c.in_ok-parts.parts) c.in_ok-parts.ensures.value n refl refl c.in_ok-specifiers.ensures.found, of_name n c.args.name.now false (sym c.same_name.ensures ∙ c.if-same_name.false))

pub returns-in_err-parts-clause-message : goal.returns-in_err-parts-clause-message
returns-in_err-parts-clause-message c =
    passed (λ r. IfErr r (λ e. IfSome (requirement_rejection_of e) (λ f. requirement_text_of e ≡ Some (requirement_rejection_text f)))) c.from_residual.result c.in_err-parts.field-0.0.kind c.from_residual.ensures.1 c.in_err-parts.ensures.message

pub returns-in_err-parts-clause-lifted : goal.returns-in_err-parts-clause-lifted
returns-in_err-parts-clause-lifted c = passed (λ r. IfErr r IsRequirementLifted) c.from_residual.result c.in_err-parts.field-0.0.kind c.from_residual.ensures.1 c.in_err-parts.ensures.lifted

pub returns-in_err-specifiers-clause-message : goal.returns-in_err-specifiers-clause-message
returns-in_err-specifiers-clause-message c =
    passed (λ r. IfErr r (λ e. IfSome (requirement_rejection_of e) (λ f. requirement_text_of e ≡ Some (requirement_rejection_text f)))) c.from_residual-in_err-specifiers.result c.in_err-specifiers.field-0.0.kind c.from_residual-in_err-specifiers.ensures.1 c.in_err-specifiers.ensures.message

pub returns-in_err-specifiers-clause-lifted : goal.returns-in_err-specifiers-clause-lifted
returns-in_err-specifiers-clause-lifted c = passed (λ r. IfErr r IsRequirementLifted) c.from_residual-in_err-specifiers.result c.in_err-specifiers.field-0.0.kind c.from_residual-in_err-specifiers.ensures.1 c.in_err-specifiers.ensures.lifted
