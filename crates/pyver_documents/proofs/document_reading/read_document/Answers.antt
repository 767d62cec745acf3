use Rattle.std.proofs.Common.{◌≡◌, ◌∙◌, codes, inl, subst, sym}
use Rattle.std.proofs.lemmas.Result.{IfOk-weaker}
use Rattle.std.specs.Str.{IsUtf8}
use Rattle.pyver_documents.specs.DocumentViews.{document_of, document_reading_of}
use Rattle.pyver_documents.specs.Meanings.{IsDocumentReading, broken_at}
use Rattle.pyver_documents.proofs.document_reading.read_document.Goals as goal

pub returns-in-Err : goal.returns-in-Err
returns-in-Err c =
    let reason = codes "not UTF-8" in
    let position = c.valid_up_to.result in
    IfOk-weaker c.reject_document.result (λ x. document_reading_of x ≡ broken_at (record { name = c.as_slice-name.result.now; text = c.as_slice-text.result.now }) position reason)
    (λ x. IsDocumentReading (document_of c.args.document.now) (document_reading_of x))
    (λ x is. inl (
      λ u. c.in-Err.ensures.cases.0 (subst IsUtf8 (sym c.as_slice-text.ensures.value) u),
      (position, is ∙ (λ j. broken_at (record { name = c.as_slice-name.ensures.value j; text = c.as_slice-text.ensures.value j }) position reason)),
    ))
    c.reject_document.ensures.at
