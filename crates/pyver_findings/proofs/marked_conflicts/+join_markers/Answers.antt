use Rattle.std.proofs.Common.{◌-◌, Bor, ap, drop, length, map, sym, take}
use Rattle.pyver_findings.proofs.MarkedConflicts.{first_and_rest, joined_more, some_mapped}
use Rattle.pyver_findings.specs.Views.{demand_of}
use Rattle.pyver_findings.specs.declared.demand.Demand.{Demand as DemandValue}
use Rattle.pyver_findings.proofs.marked_conflicts.+join_markers.Goals as goal

pub returns : goal.returns
returns t c =
    let view = λ (x : Bor DemandValue). demand_of x.now in
    let set = c.args.set.now in
    let others = take (length set - 1) (drop 1 set) in
    joined_more (map view set) (view c.first-item.result) (map view others) _ _ _ (ap (map view) (first_and_rest set c.first-item.result c.in-len1-up.len_at_least c.first-item.is))
    (some_mapped view others (sym c.if-is_empty.ensures)) (rw c.in-Some.is at c.in_ok-marker.ensures) (rw c.in-Some-2.is at c.in_ok-joined.ensures) c.in_ok-and.ensures
