use Rattle.std.proofs.Common.{◌≡◌, ◌++◌, drop, map}
use Rattle.pyver_findings.specs.FileLines.{all_lines}
use Rattle.pyver_findings.specs.Views.{file_line_of, file_of}
use Rattle.pyver_findings.proofs.file_line.all_lines.Given as goal

abbrev pub invariant-loop-file : goal.invariant-loop-file
invariant-loop-file l = map file_line_of l.lines.items ++ all_lines (map file_of (drop l.file-index l.files)) ≡ all_lines (map file_of l.files)
