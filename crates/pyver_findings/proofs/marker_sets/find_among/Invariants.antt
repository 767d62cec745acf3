use Rattle.std.proofs.Common.{◌≡◌, length, map}
use Rattle.pyver_findings.specs.MarkedConflicts.{set_among}
use Rattle.pyver_findings.specs.Views.{demand_of, demands_of_sets}
use Rattle.pyver_findings.proofs.marker_sets.find_among.Given as goal

abbrev pub invariant-loop-rest : goal.invariant-loop-rest
invariant-loop-rest l = set_among (map (λ x. demand_of x.now) l.fn.firsts) (demands_of_sets l.rest) ≡ set_among (map (λ x. demand_of x.now) l.fn.firsts) (demands_of_sets l.fn.sets)

abbrev pub decreases-loop-rest : goal.decreases-loop-rest
decreases-loop-rest l = length l.rest
