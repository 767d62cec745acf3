use Rattle.std.proofs.Common.{◌≡◌, ◌++◌, map}
use Rattle.std.specs.Vec.Iter.{into_iter_items}
use Rattle.pyver_findings.specs.FileLines.{file_line}
use Rattle.pyver_findings.specs.Views.{file_line_of}
use Rattle.pyver_requirements.specs.LineKinds.{logical_line_of}
use Rattle.pyver_findings.proofs.file_line.push_lines.Given as goal

abbrev pub invariant-loop-line : goal.invariant-loop-line
invariant-loop-line l =
    map file_line_of l.lines.items ++ map (file_line l.file) (map logical_line_of (into_iter_items l.line-iterator)) ≡ map file_line_of l.initial.lines.items ++ map (file_line l.file) (map logical_line_of (into_iter_items l.initial.line-iterator))
