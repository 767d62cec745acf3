use Rattle.pyver_findings.specs.SarifLogs.{file_uri, line_start}
use Rattle.pyver_requirements.proofs.Grouped.{part_more}
use Rattle.pyver_findings.proofs.report_sarif.push_line_start.Goals as goal

pub returns : goal.returns
unfolding line_start
returns c =
    part_more c.args.bytes.now.items _ _ _ _ c.in_ok-push_text.ensures
    (part_more _ (file_uri c.args.line.now.file.items) _ _ _ (rw c.as_slice.ensures.value at c.in_ok-push_uri.ensures)
    (part_more _ _ _ _ _ c.in_ok-push_text-2.ensures c.in_ok-push_number.ensures))
