use Rattle.std.proofs.Common.{drop, map}
use Rattle.pyver_documents.specs.Comparing.{FindsOfReading}
use Rattle.pyver_documents.specs.DocumentViews.{reading_in}
use Rattle.pyver_findings.proofs.MarkedConflicts.{Continues}
use Rattle.pyver_findings.specs.MarkedConflicts.{FindsOfEach}
use Rattle.pyver_findings.specs.Views.{AddsFound}
use Rattle.pyver_documents.proofs.document_report.push_all_conflicts.Given as goal

abbrev pub invariant-loop-document : goal.invariant-loop-document
invariant-loop-document l =
    let found = FindsOfEach FindsOfReading in
    AddsFound (Continues (found (map reading_in (drop l.document-index l.read))) (found (map reading_in l.read))) l.initial.findings.items l.findings.items l.initial.left_out.items l.left_out.items
