use Rattle.std.proofs.Common.{◌≡◌, ◌∙◌, IfSome, Option, Some, is_none, string_bytes, subst, sym, ap}
use Rattle.std.proofs.lemmas.Result.{IfOk-weaker}
use Rattle.pep440_rs.specs.ErrorTexts.{specifier_rejection_text}
use Rattle.pep440_rs.specs.Lists.ListResults.{line_of, list_kind_of}
use Rattle.pep440_rs.specs.Lists.ListErrors.{list_rejection_of}
use Rattle.pep440_rs.specs.Lists.ListErrorTexts.{list_rejection_text, list_text_of}
use Rattle.pep440_rs.specs.Lists.ListGrammar.{PieceRejection}
use Rattle.pyver_findings.specs.LineMeanings.{list_column, IsNone}
use Rattle.pyver_findings.specs.FileLines.{NoRequirement}
use Rattle.pyver_findings.specs.Views.{file_line_of, line_meaning_of}
use Rattle.pyver_findings.proofs.Rejecting.{list_reason_is, list_refusal}
use Rattle.pyver_findings.proofs.requirement_line.reject_list.Goals as goal

pub returns : goal.returns
returns c =
    let e = c.args.error.now in
    let kind = list_kind_of e in
    let text = c.args.text.now in
    let l = file_line_of c.args.line.now in
    let some = sym (c.is_list_memory.ensures ∙ ap (λ k. is_none (list_rejection_of k)) c.kind.ensures) ∙ c.if-is_list_memory.false in
    let f = list_refusal (list_rejection_of kind) some in
    let told : list_text_of kind (line_of e) ≡ Some (list_rejection_text f.0 text) = subst (λ (o : Option PieceRejection). IfSome o (λ g. list_text_of kind (line_of e) ≡ Some (list_rejection_text g text))) f.1 c.requires.message in
    let why : c.as_str.result.now ≡ specifier_rejection_text f.0.error = c.as_str.ensures.value ∙ list_reason_is kind (line_of e) text (string_bytes c.in_ok-reason.reason) f.0 c.requires.line f.1 told c.in_ok-reason.ensures in
    let at : c.list_column-column.result ≡ list_column text f.0 =
    subst (λ (o : Option PieceRejection). IfSome o (λ g. c.list_column-column.result ≡ list_column text g)) f.1 (subst (λ t. IfSome (list_rejection_of kind) (λ g. c.list_column-column.result ≡ list_column t g)) c.as_bytes.ensures.value c.list_column-column.ensures.value) in
    IfOk-weaker c.reject.result (λ x. line_meaning_of x ≡ IsNone (NoRequirement l c.as_str.result.now c.list_column-column.result))
    (λ x. (g : PieceRejection) × (list_rejection_of kind ≡ Some g) × (line_meaning_of x ≡ IsNone (NoRequirement l (specifier_rejection_text g.error) (list_column text g)))) (λ x is. (f.0, f.1, is ∙ (λ j. IsNone (NoRequirement l (why j) (at j))))) c.reject.ensures
