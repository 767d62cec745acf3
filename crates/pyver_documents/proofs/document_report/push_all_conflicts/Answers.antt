use Rattle.std.proofs.Common.{refl}
use Rattle.pyver_documents.proofs.Walks.{sound_at}
use Rattle.pyver_documents.specs.Comparing.{FindsOfReading}
use Rattle.pyver_documents.specs.DocumentViews.{reading_in}
use Rattle.pyver_documents.specs.Meanings.{IsSoundDocument}
use Rattle.pyver_findings.proofs.MarkedConflicts.{each_done, each_more, start}
use Rattle.pyver_documents.proofs.document_report.push_all_conflicts.Goals as goal

pub push_reading_conflicts-requires : goal.push_reading_conflicts-requires
push_reading_conflicts-requires c = sound_at reading_in IsSoundDocument c.args.read.now c.loop-document.document-index c.document-item.result c.loop-document-test.true c.document-item.is c.requires

pub loop-document-init : goal.loop-document-init
loop-document-init c = start _ _ _ _ _ refl refl

pub loop-document-preserved : goal.loop-document-preserved
loop-document-preserved c = each_more reading_in FindsOfReading c.args.read.now c.loop-document.document-index c.document-item.result _ _ _ _ _ _ c.loop-document-test.true c.document-item.is c.in_ok-push_reading_conflicts.ensures c.loop-document.invariant

pub returns : goal.returns
returns c = each_done reading_in FindsOfReading c.args.read.now c.loop-document.document-index _ _ _ _ c.loop-document-test.false c.loop-document.invariant
