use Rattle.std.proofs.Common.{◌≡◌, length, map}
use Rattle.pyver_findings.specs.MarkedConflicts.{has_all}
use Rattle.pyver_findings.specs.Views.{demand_of}
use Rattle.pyver_findings.proofs.marker_sets.has_all.Given as goal

abbrev pub invariant-loop-rest : goal.invariant-loop-rest
invariant-loop-rest l = has_all (map (λ x. demand_of x.now) l.fn.firsts) (map (λ x. demand_of x.now) l.rest) ≡ has_all (map (λ x. demand_of x.now) l.fn.firsts) (map (λ x. demand_of x.now) l.fn.set)

abbrev pub decreases-loop-rest : goal.decreases-loop-rest
decreases-loop-rest l = length l.rest
