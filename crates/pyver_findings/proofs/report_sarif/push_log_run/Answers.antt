use Rattle.std.proofs.Common.{◌++◌, map}
use Rattle.pyver_findings.specs.SarifLogs.{all_rules, finding_results}
use Rattle.pyver_findings.specs.Views.{finding_of}
use Rattle.pyver_requirements.proofs.Grouped.{part_more}
use Rattle.pyver_findings.proofs.report_sarif.push_log_run.Goals as goal

pub returns : goal.returns
returns c =
    part_more c.args.bytes.now.items _ _ _ _ c.in_ok-push_text.ensures
    (part_more _ all_rules _ _ _ c.in_ok-push_rules.ensures
    (part_more _ _ _ _ _ c.in_ok-push_text-2.ensures
    (part_more _ (finding_results (map finding_of c.args.report.now.findings.items ++ map finding_of c.args.report.now.ignored.items)) _ _ _
    (rw (c.as_slice.ensures.value, c.as_slice-2.ensures.value) at c.in_ok-push_all_results.ensures) c.in_ok-push_text-3.ensures)))
