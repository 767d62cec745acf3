use Rattle.std.proofs.Common.{◌≡◌, ◌++◌, drop, map}
use Rattle.std.specs.List.{flat_map}
use Rattle.pyver_findings.specs.SarifLogs.{next_result}
use Rattle.pyver_findings.specs.Views.{finding_of}
use Rattle.pyver_findings.proofs.report_sarif.push_next_results.Given as goal

abbrev pub invariant-loop-finding : goal.invariant-loop-finding
invariant-loop-finding l = l.bytes.items ++ flat_map next_result (map finding_of (drop l.finding-index l.findings)) ≡ l.initial.bytes.items ++ flat_map next_result (map finding_of l.findings)
