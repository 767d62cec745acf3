use Rattle.std.proofs.Common.{◌≡◌, map}
use Rattle.std.specs.Vec.Iter.{into_iter_items}
use Rattle.pyver_documents.specs.Comparing.{with_own_reports}
use Rattle.pyver_documents.specs.DocumentViews.{excuses, reading_in}
use Rattle.pyver_findings.specs.Reports.{empty_report}
use Rattle.pyver_findings.specs.Views.{report_of}
use Rattle.pyver_documents.proofs.document_report.report_all.Given as goal

abbrev pub invariant-loop-read : goal.invariant-loop-read
invariant-loop-read l =
    with_own_reports (excuses l.projects) (report_of l.report) (map reading_in (into_iter_items l.read-iterator)) ≡ with_own_reports (excuses l.projects) empty_report (map reading_in (into_iter_items l.initial.read-iterator))
