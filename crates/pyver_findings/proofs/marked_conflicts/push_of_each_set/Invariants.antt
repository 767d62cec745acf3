use Rattle.std.proofs.Common.{drop, map}
use Rattle.pyver_findings.proofs.MarkedConflicts.{Continues}
use Rattle.pyver_findings.specs.MarkedConflicts.{FindsOfEach, FindsOfSet}
use Rattle.pyver_findings.specs.Views.{AddsFound, demand_of, demands_of_sets}
use Rattle.pyver_markers.specs.Extents.{domain_of}
use Rattle.pyver_findings.proofs.marked_conflicts.push_of_each_set.Given as goal

abbrev pub invariant-loop-set : goal.invariant-loop-set
invariant-loop-set l =
    let found = FindsOfEach (FindsOfSet (domain_of l.domain) (map (λ x. demand_of x.now) l.lines)) in
    AddsFound (Continues (found (demands_of_sets (drop l.set-index l.sets))) (found (demands_of_sets l.sets)))
    l.initial.findings.items l.findings.items l.initial.left_out.items l.left_out.items
