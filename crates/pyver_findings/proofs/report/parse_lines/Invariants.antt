use Rattle.std.proofs.Common.{map, take}
use Rattle.pyver_findings.specs.Views.{KeepsReadings, file_line_of}
use Rattle.pyver_findings.proofs.report.parse_lines.Given as goal

abbrev pub invariant-loop-line : goal.invariant-loop-line
invariant-loop-line l = KeepsReadings (map file_line_of (take l.line-index l.lines)) l.readings
