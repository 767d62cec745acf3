use Rattle.std.proofs.Common.{refl}
use Rattle.pyver_documents.proofs.Walks.{alike_more, paired, read_more}
use Rattle.pyver_documents.specs.DocumentViews.{document_of, reading_in}
use Rattle.pyver_documents.specs.Meanings.{IsDocumentReading}
use Rattle.pyver_documents.proofs.document_report.read_documents.Goals as goal

pub loop-document-preserved : goal.loop-document-preserved
loop-document-preserved c =
    let documents = c.args.documents.now in
    let at = c.loop-document.document-index in (
      read_more document_of reading_in IsDocumentReading documents at c.document-item.result c.loop-document.read.items c.push.new.self.items _ c.loop-document-test.true c.document-item.is
          c.in_ok-push.ensures.items c.in_ok-reading.ensures c.loop-document.invariant.0,
      alike_more document_of (λ x. document_of x.document.now) documents at c.document-item.result c.loop-document.read.items c.push.new.self.items _ c.loop-document-test.true c.document-item.is
          c.in_ok-push.ensures.items refl c.loop-document.invariant.1,
    )

pub returns-clause-pairs : goal.returns-clause-pairs
returns-clause-pairs c =
    paired document_of (λ x. document_of x.document.now) reading_in c.args.documents.now c.loop-document.document-index c.loop-document.read.items c.loop-document-test.false
    c.loop-document.invariant.1
