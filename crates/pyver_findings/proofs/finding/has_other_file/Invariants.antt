use Rattle.std.proofs.Common.{◌≡◌, bytes_eq, drop, map, not}
use Rattle.std.specs.List.{list_any}
use Rattle.pyver_findings.specs.Views.{file_line_of}
use Rattle.pyver_findings.proofs.finding.has_other_file.Given as goal

abbrev pub invariant-loop-line : goal.invariant-loop-line
invariant-loop-line l = list_any (λ m. not (bytes_eq m.file l.file)) (map file_line_of l.lines) ≡ list_any (λ m. not (bytes_eq m.file l.file)) (map file_line_of (drop l.line-index l.lines))
