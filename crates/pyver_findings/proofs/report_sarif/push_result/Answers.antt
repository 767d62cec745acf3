use Rattle.std.proofs.Common.{◌∙◌, ap}
use Rattle.pyver_findings.specs.Reports.{finding_kind, is_ignored, kind_code}
use Rattle.pyver_findings.specs.ReportTexts.{json_string, finding_message}
use Rattle.pyver_findings.specs.SarifLogs.{finding_location, finding_result, suppression}
use Rattle.pyver_findings.specs.Views.{finding_of}
use Rattle.pyver_requirements.proofs.Grouped.{part_more}
use Rattle.pyver_findings.proofs.report_sarif.push_result.Goals as goal

pub returns : goal.returns
unfolding finding_result
returns c =
    let f = finding_of c.args.finding.now in
    part_more c.args.bytes.now.items _ _ _ _ c.in_ok-push_text.ensures
    (part_more _ (kind_code (finding_kind f)) _ _ _ (rw (c.code.ensures ∙ ap kind_code c.kind.ensures) at c.in_ok-push_text-2.ensures)
    (part_more _ _ _ _ _ c.in_ok-push_text-3.ensures
    (part_more _ (json_string (finding_message f)) _ _ _ c.in_ok-push_message_string.ensures
    (part_more _ _ _ _ _ c.in_ok-push_text-4.ensures
    (part_more _ (finding_location f) _ _ _ c.in_ok-push_location.ensures
    (part_more _ _ _ _ _ c.in_ok-push_text-5.ensures
    (part_more _ (suppression (is_ignored f)) _ _ _ (rw (c.suppression.ensures ∙ ap suppression c.is_ignored.ensures) at c.in_ok-push_text-6.ensures) c.in_ok-push_text-7.ensures)))))))
