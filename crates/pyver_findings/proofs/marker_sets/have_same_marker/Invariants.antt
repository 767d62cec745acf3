use Rattle.std.proofs.Common.{◌≡◌, length, map}
use Rattle.std.specs.List.{list_any}
use Rattle.pyver_findings.specs.Conflicts.{has_same_marker}
use Rattle.pyver_findings.specs.Views.{demand_of}
use Rattle.pyver_findings.proofs.marker_sets.have_same_marker.Given as goal

abbrev pub invariant-loop-rest : goal.invariant-loop-rest
invariant-loop-rest l = list_any (has_same_marker (demand_of l.fn.line)) (map (λ x. demand_of x.now) l.rest) ≡ list_any (has_same_marker (demand_of l.fn.line)) (map (λ x. demand_of x.now) l.fn.firsts)

abbrev pub decreases-loop-rest : goal.decreases-loop-rest
decreases-loop-rest l = length l.rest
