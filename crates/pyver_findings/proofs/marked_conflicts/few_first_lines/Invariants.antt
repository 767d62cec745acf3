use Rattle.std.proofs.Common.{◌≡◌, ◌≤◌, [], drop, length, map}
use Rattle.pyver_findings.specs.MarkedConflicts.{first_lines}
use Rattle.pyver_findings.specs.Views.{demand_of}
use Rattle.pyver_findings.proofs.marked_conflicts.few_first_lines.Given as goal

abbrev pub invariant-loop-line : goal.invariant-loop-line
invariant-loop-line l =
    (first_lines (map (λ x. demand_of x.now) l.firsts.items) (map (λ x. demand_of x.now) (drop l.line-index l.lines)) ≡ first_lines [] (map (λ x. demand_of x.now) l.lines)) × (length l.firsts.items ≤ 32)
