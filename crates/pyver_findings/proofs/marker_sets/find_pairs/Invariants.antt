use Rattle.std.proofs.Common.{◌≡◌, ◌≤◌, ◌++◌, drop, length, map}
use Rattle.std.specs.List.{flat_map}
use Rattle.pyver_findings.specs.MarkedConflicts.{conflicting_pair, conflicting_pairs}
use Rattle.pyver_findings.specs.Views.{demand_of, demands_of_sets}
use Rattle.pyver_findings.proofs.marker_sets.find_pairs.Given as goal

abbrev pub invariant-loop-rest : goal.invariant-loop-rest
invariant-loop-rest l = record {
  pairs : demands_of_sets l.sets.items ++ conflicting_pairs (map (λ x. demand_of x.now) l.fn.lines) (map (λ x. demand_of x.now) l.rest) ≡ conflicting_pairs (map (λ x. demand_of x.now) l.fn.lines) (map (λ x. demand_of x.now) l.fn.firsts);
  fewer : length l.rest ≤ length l.fn.firsts;
}

abbrev pub decreases-loop-rest : goal.decreases-loop-rest
decreases-loop-rest l = length l.rest

abbrev pub invariant-loop-other : goal.invariant-loop-other
invariant-loop-other l =
    let pairs = flat_map (conflicting_pair (map (λ x. demand_of x.now) l.fn.lines) (demand_of l.one.now)) in
    record {
      pairs : demands_of_sets l.sets.items ++ pairs (map (λ x. demand_of x.now) (drop l.other-index l.later)) ≡ demands_of_sets l.initial.sets.items ++ pairs (map (λ x. demand_of x.now) l.later);
      fewer : length l.later ≤ length l.fn.firsts;
    }
