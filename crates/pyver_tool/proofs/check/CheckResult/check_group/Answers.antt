use Rattle.std.proofs.Common.{◌≡◌, ◌∙◌, List, ap, map, subst}
use Rattle.pyver_findings.specs.FileLines.{File}
use Rattle.pyver_findings.specs.Reports.{IsReport, without_ignored}
use Rattle.pyver_findings.specs.Views.{file_of, report_of}
use Rattle.pyver_documents.specs.Comparing.{IsDocumentsReport}
use Rattle.pyver_documents.specs.Meanings.{Document}
use Rattle.pyver_documents.specs.DocumentViews.{document_of}
use Rattle.pyver_tool.specs.TaskViews.{check_result_of}
use Rattle.pyver_tool.specs.Checks.{with_report}
use Rattle.pyver_tool.specs.RequirementFiles.{read_of, unopened_file_of}
use Rattle.pyver_tool.proofs.check.CheckResult.check_group.Goals as goal

pub returns-clause-checked : goal.returns-clause-checked
returns-clause-checked g c =
    let r = report_of c.in_ok-report.report in
    let s = report_of c.in_ok-find_document_problems.field-0 in
    let files : map file_of c.as_slice-files.result.now ≡ map file_of c.in_ok-read.read.requirements.items = ap (map file_of) c.as_slice-files.ensures.value in
    let documents : map document_of c.as_slice-documents.result.now ≡ map document_of c.in_ok-read.read.documents.items = ap (map document_of) c.as_slice-documents.ensures.value in
    let of_lines = subst (λ (fs : List File). IsReport fs r) files c.in_ok-report.ensures in
    let of_documents = subst (λ (ds : List Document). IsDocumentsReport ds s) documents c.in_ok-find_document_problems.ensures in
    (read_of c.in_ok-read.read, c.in_ok-read.ensures.read, (r, s, of_lines, of_documents, c.in_ok-push.ensures ∙ ap (with_report (map unopened_file_of c.in_ok-read.read.unopened.items) (check_result_of c.args.self.now)) (c.in_ok-apply_comments.ensures ∙ ap without_ignored c.in_ok-append.ensures)))
