use Rattle.std.proofs.Common.{◌≡◌, ◌++◌, drop, map}
use Rattle.std.specs.List.{flat_map}
use Rattle.pyver_findings.specs.LineMeanings.{constraint_faults}
use Rattle.pyver_findings.specs.Views.{file_line_of, finding_of}
use Rattle.pyver_findings.proofs.constraints.push_faults_of_lines.Given as goal

abbrev pub invariant-loop-line : goal.invariant-loop-line
invariant-loop-line l =
    map finding_of l.findings.items ++ flat_map constraint_faults (map file_line_of (drop l.line-index l.lines))
    ≡ map finding_of l.initial.findings.items ++ flat_map constraint_faults (map file_line_of l.lines)
