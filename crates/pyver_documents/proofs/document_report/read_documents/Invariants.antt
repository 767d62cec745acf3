use Rattle.std.proofs.Common.{◌≡◌, map, take}
use Rattle.std.specs.List.{AllZip}
use Rattle.pyver_documents.specs.DocumentViews.{document_of, reading_in}
use Rattle.pyver_documents.specs.Meanings.{IsDocumentReading}
use Rattle.pyver_documents.proofs.document_report.read_documents.Given as goal

abbrev pub invariant-loop-document : goal.invariant-loop-document
invariant-loop-document l =
    AllZip IsDocumentReading (map document_of (take l.document-index l.documents)) (map reading_in l.read.items)
    × (map (λ x. document_of x.document.now) l.read.items ≡ map document_of (take l.document-index l.documents))
