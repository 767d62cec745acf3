use Rattle.pyver_findings.specs.Reports.{kind_code, kind_summary, kind_word}
use Rattle.pyver_findings.specs.SarifLogs.{rule}
use Rattle.pyver_requirements.proofs.Grouped.{part_more}
use Rattle.pyver_findings.proofs.report_sarif.push_rule.Goals as goal

pub returns : goal.returns
unfolding rule
returns c =
    part_more c.args.bytes.now.items _ _ _ _ c.in_ok-push_text.ensures
    (part_more _ (kind_code c.args.kind) _ _ _ (rw c.code.ensures at c.in_ok-push_text-2.ensures)
    (part_more _ _ _ _ _ c.in_ok-push_text-3.ensures
    (part_more _ (kind_word c.args.kind) _ _ _ (rw c.word.ensures at c.in_ok-push_text-4.ensures)
    (part_more _ _ _ _ _ c.in_ok-push_text-5.ensures
    (part_more _ (kind_summary c.args.kind) _ _ _ (rw c.summary.ensures at c.in_ok-push_text-6.ensures) c.in_ok-push_text-7.ensures)))))
