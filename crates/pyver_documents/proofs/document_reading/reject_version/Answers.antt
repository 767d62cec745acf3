use Rattle.std.proofs.Common.{◌≡◌, ◌∙◌, IfSome, List, Option, Some, string_bytes, subst, ℕ}
use Rattle.std.proofs.lemmas.Result.{IfOk-weaker}
use Rattle.pep440_version.specs.ErrorTexts.{error_text, rejection_text}
use Rattle.pep440_version.specs.Errors.{error_rejection}
use Rattle.pep440_version.specs.Rejections.{Rejection}
use Rattle.pyver_documents.proofs.Walks.{refusal, version_reason_is}
use Rattle.pyver_findings.specs.FileLines.{NoRequirement}
use Rattle.pyver_findings.specs.LineMeanings.{IsNone}
use Rattle.pyver_findings.specs.Views.{file_line_of, line_meaning_of}
use Rattle.pyver_documents.proofs.document_reading.reject_version.Goals as goal

pub returns : goal.returns
returns c =
    let e = c.args.error.now in
    let l = file_line_of c.args.line.now in
    let s = string_bytes c.in_ok-reason.reason in
    let f = refusal (error_rejection e) c.in_ok-reason.ensures.memory in
    let told : error_text (Some f.0) ≡ Some (rejection_text f.0) = subst (λ (o : Option Rejection). IfSome o (λ g. error_text o ≡ Some (rejection_text g))) f.1 c.requires in
    let why : s ≡ rejection_text f.0 = version_reason_is f.0 s told (subst (λ (o : Option Rejection). IfSome (error_text o) (λ (t : List ℕ). s ≡ t)) f.1 c.in_ok-reason.ensures.text) in
    IfOk-weaker c.reject.result (λ x. line_meaning_of x ≡ IsNone (NoRequirement l s 0)) (λ x. (g : Rejection) × (error_rejection e ≡ Some g) × (line_meaning_of x ≡ IsNone (NoRequirement l (rejection_text g) 0))) (λ x is. (f.0, f.1, is ∙ (λ j. IsNone (NoRequirement l (why j) 0)))) c.reject.ensures
