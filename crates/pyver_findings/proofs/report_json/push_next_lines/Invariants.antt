use Rattle.std.proofs.Common.{◌≡◌, ◌++◌, drop, map}
use Rattle.std.specs.List.{flat_map}
use Rattle.pyver_findings.specs.ReportTexts.{next_line}
use Rattle.pyver_findings.specs.Views.{file_line_of}
use Rattle.pyver_findings.proofs.report_json.push_next_lines.Given as goal

abbrev pub invariant-loop-line : goal.invariant-loop-line
invariant-loop-line l = l.bytes.items ++ flat_map next_line (map file_line_of (drop l.line-index l.lines)) ≡ l.initial.bytes.items ++ flat_map next_line (map file_line_of l.lines)
