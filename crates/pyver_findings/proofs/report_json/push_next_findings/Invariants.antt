use Rattle.std.proofs.Common.{◌≡◌, ◌++◌, drop, map}
use Rattle.std.specs.List.{flat_map}
use Rattle.pyver_findings.specs.ReportTexts.{next_finding}
use Rattle.pyver_findings.specs.Views.{finding_of}
use Rattle.pyver_findings.proofs.report_json.push_next_findings.Given as goal

abbrev pub invariant-loop-finding : goal.invariant-loop-finding
invariant-loop-finding l = l.bytes.items ++ flat_map next_finding (map finding_of (drop l.finding-index l.findings)) ≡ l.initial.bytes.items ++ flat_map next_finding (map finding_of l.findings)
