use Rattle.std.proofs.Common.{◌≡◌, map}
use Rattle.pyver_findings.specs.MarkedConflicts.{conflicting_sets, search_branches}
use Rattle.pyver_findings.specs.Views.{branch_of, demand_of, demands_of_sets}
use Rattle.pyver_findings.proofs.marker_sets.find_conflicting_sets.Given as goal

abbrev pub invariant-loop-left : goal.invariant-loop-left
invariant-loop-left l =
    search_branches (map (λ x. demand_of x.now) l.fn.lines) (map branch_of l.queue.items) l.left (demands_of_sets l.sets.items)
    ≡ conflicting_sets (map (λ x. demand_of x.now) l.fn.lines) (map (λ x. demand_of x.now) l.fn.firsts)

abbrev pub decreases-loop-left : goal.decreases-loop-left
decreases-loop-left l = l.left
