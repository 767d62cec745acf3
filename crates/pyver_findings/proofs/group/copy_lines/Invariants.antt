use Rattle.std.proofs.Common.{◌≡◌, ◌++◌, drop, map}
use Rattle.pyver_findings.specs.Demands.{Demand}
use Rattle.pyver_findings.specs.Views.{demand_of, file_line_of}
use Rattle.pyver_findings.proofs.group.copy_lines.Given as goal

abbrev pub invariant-loop-line : goal.invariant-loop-line
invariant-loop-line l = map file_line_of l.copies.items ++ map (λ (a : Demand). a.line) (map (λ x. demand_of x.now) (drop l.line-index l.lines)) ≡ map (λ (a : Demand). a.line) (map (λ x. demand_of x.now) l.lines)
