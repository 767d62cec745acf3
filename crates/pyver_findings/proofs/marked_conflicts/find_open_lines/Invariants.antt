use Rattle.std.proofs.Common.{◌≡◌, ◌++◌, drop, map}
use Rattle.pyver_findings.specs.MarkedConflicts.{open_lines}
use Rattle.pyver_findings.specs.Views.{demand_of}
use Rattle.pyver_findings.proofs.marked_conflicts.find_open_lines.Given as goal

abbrev pub invariant-loop-first : goal.invariant-loop-first
invariant-loop-first l =
    map (λ x. demand_of x.now) l.paired.items ++ open_lines (map (λ x. demand_of x.now) l.lines) (map (λ x. demand_of x.now) (drop l.first-index l.firsts)) ≡ open_lines (map (λ x. demand_of x.now) l.lines) (map (λ x. demand_of x.now) l.firsts)
