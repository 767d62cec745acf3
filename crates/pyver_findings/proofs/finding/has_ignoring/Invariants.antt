use Rattle.std.proofs.Common.{◌≡◌, drop, map}
use Rattle.std.specs.List.{list_any}
use Rattle.pyver_findings.specs.Reports.{ignores}
use Rattle.pyver_findings.specs.Views.{file_line_of}
use Rattle.pyver_findings.proofs.finding.has_ignoring.Given as goal

abbrev pub invariant-loop-line : goal.invariant-loop-line
invariant-loop-line l = list_any (ignores l.kind) (map file_line_of l.lines) ≡ list_any (ignores l.kind) (map file_line_of (drop l.line-index l.lines))
