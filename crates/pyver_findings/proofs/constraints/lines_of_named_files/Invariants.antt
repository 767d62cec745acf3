use Rattle.std.proofs.Common.{◌≡◌, ◌++◌, bytes_eq, drop, map}
use Rattle.std.specs.List.{filter, list_any}
use Rattle.pyver_findings.specs.FileLines.{all_lines}
use Rattle.pyver_findings.specs.Views.{file_line_of, file_of}
use Rattle.pyver_findings.proofs.constraints.lines_of_named_files.Given as goal

abbrev pub invariant-loop-file : goal.invariant-loop-file
invariant-loop-file l =
    map file_line_of l.lines.items ++ all_lines (filter (λ f. list_any (bytes_eq f.name) (map (λ n. n.items) l.names)) (map file_of (drop l.file-index l.files)))
    ≡ all_lines (filter (λ f. list_any (bytes_eq f.name) (map (λ n. n.items) l.names)) (map file_of l.files))
