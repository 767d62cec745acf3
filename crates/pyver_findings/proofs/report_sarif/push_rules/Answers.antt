use Rattle.pyver_findings.specs.SarifLogs.{rule}
use Rattle.pyver_findings.specs.declared.finding.FindingKind.TheVariants as kind
use Rattle.pyver_requirements.proofs.Grouped.{part_more}
use Rattle.pyver_findings.proofs.report_sarif.push_rules.Goals as goal

pub returns : goal.returns
returns c =
    part_more c.args.bytes.now.items (rule kind.NoRequirement) _ _ _ c.in_ok-push_rule.ensures
    (part_more _ _ _ _ _ c.in_ok-push_text.ensures
    (part_more _ (rule kind.NoVersion) _ _ _ c.in_ok-push_rule-2.ensures
    (part_more _ _ _ _ _ c.in_ok-push_text-2.ensures
    (part_more _ (rule kind.PinOutside) _ _ _ c.in_ok-push_rule-3.ensures
    (part_more _ _ _ _ _ c.in_ok-push_text-3.ensures c.in_ok-push_rule-4.ensures)))))
