use Rattle.std.proofs.Common.{◌≡◌, ◌++◌, drop, map}
use Rattle.std.specs.List.{flat_map}
use Rattle.pyver_findings.specs.NamedFiles.{constraints_names}
use Rattle.pyver_findings.specs.Views.{file_line_of}
use Rattle.pyver_findings.proofs.constraints.constraints_names.Given as goal

abbrev pub invariant-loop-line : goal.invariant-loop-line
invariant-loop-line l = map (λ n. n.items) l.names.items ++ flat_map constraints_names (map file_line_of (drop l.line-index l.lines)) ≡ flat_map constraints_names (map file_line_of l.lines)
