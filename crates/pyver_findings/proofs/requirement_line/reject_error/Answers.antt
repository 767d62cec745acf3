use Rattle.std.proofs.Common.{◌≡◌, ◌∙◌, IfSome, Option, Some, string_bytes, subst}
use Rattle.std.proofs.lemmas.Result.{IfOk-weaker}
use Rattle.pep440_pick.specs.RequirementGrammar.{RequirementRejection}
use Rattle.pep440_pick.specs.Requirements.{requirement_rejection_text, requirement_text_of, requirement_rejection_of}
use Rattle.pyver_findings.specs.LineMeanings.{column, IsNone, rejection_meaning, requirement_reason}
use Rattle.pyver_findings.specs.FileLines.{NoRequirement}
use Rattle.pyver_findings.specs.Views.{file_line_of, line_meaning_of}
use Rattle.pyver_requirements.specs.LineKinds.{line_parts_of}
use Rattle.pyver_findings.proofs.Rejecting.{reason_is, refusal_in}
use Rattle.pyver_findings.proofs.requirement_line.reject_error.Goals as goal

pub returns : goal.returns
returns c =
    let e = c.args.error.now.kind in
    let l = file_line_of c.args.line.now in
    let p = line_parts_of c.args.parts in
    let f = refusal_in (requirement_rejection_of e) e c.in_ok-reason.ensures.memory c.requires.lifted in
    let told : requirement_text_of e ≡ Some (requirement_rejection_text f.0) = subst (λ (o : Option RequirementRejection). IfSome o (λ g. requirement_text_of e ≡ Some (requirement_rejection_text g))) f.1 c.requires.message in
    let why : c.as_str.result.now ≡ requirement_reason f.0 = c.as_str.ensures.value ∙ reason_is e f.0 (string_bytes c.in_ok-reason.reason) f.1 told c.in_ok-reason.ensures.text in
    let at : c.column-column.result ≡ column p.requirement f.0 = subst (λ (o : Option RequirementRejection). IfSome o (λ g. c.column-column.result ≡ column p.requirement g)) f.1 c.column-column.ensures in
    IfOk-weaker c.reject.result (λ x. line_meaning_of x ≡ IsNone (NoRequirement l c.as_str.result.now c.column-column.result))
    (λ x. (g : RequirementRejection) × (requirement_rejection_of e ≡ Some g) × (line_meaning_of x ≡ rejection_meaning l p g)) (λ x is. (f.0, f.1, is ∙ (λ j. IsNone (NoRequirement l (why j) (at j))))) c.reject.ensures
