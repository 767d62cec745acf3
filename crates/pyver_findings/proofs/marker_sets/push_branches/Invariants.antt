use Rattle.std.proofs.Common.{◌≡◌, ◌++◌, drop, map}
use Rattle.pyver_findings.specs.MarkedConflicts.{branches}
use Rattle.pyver_findings.specs.Views.{branch_of, demand_of}
use Rattle.pyver_findings.proofs.marker_sets.push_branches.Given as goal

abbrev pub invariant-loop-line : goal.invariant-loop-line
invariant-loop-line l =
    map branch_of l.queue.items ++ branches (map (λ x. demand_of x.now) l.kept.items) (map (λ x. demand_of x.now) l.free.items) (map (λ x. demand_of x.now) (drop l.line-index l.set))
    ≡ map branch_of l.initial.queue.items ++ branches (map (λ x. demand_of x.now) l.branch.kept.items) (map (λ x. demand_of x.now) l.branch.free.items) (map (λ x. demand_of x.now) l.set)
