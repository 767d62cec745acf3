use Rattle.std.proofs.Common.{Bor, map, refl, subst}
use Rattle.std.specs.Global.{Vec}
use Rattle.pyver_findings.proofs.MarkedConflicts.{each_done, each_more, start}
use Rattle.pyver_findings.specs.MarkedConflicts.{FindsOfSet}
use Rattle.pyver_findings.specs.Views.{AddsFound, demand_of}
use Rattle.pyver_findings.specs.declared.demand.Demand.{Demand as DemandValue}
use Rattle.pyver_markers.specs.Extents.{domain_of}
use Rattle.pyver_findings.proofs.marked_conflicts.push_of_each_set.Goals as goal

pub loop-set-init : goal.loop-set-init
loop-set-init c = start _ _ _ _ _ refl refl

pub loop-set-preserved : goal.loop-set-preserved
loop-set-preserved c =
    let view = λ (x : Bor DemandValue). demand_of x.now in
    each_more (λ (s : Vec (Bor DemandValue)). map view s.items) (FindsOfSet (domain_of c.args.domain) (map view c.args.lines.now)) c.args.sets.now c.loop-set.set-index c.set-item.result _ _ _ _ _ _ c.loop-set-test.true c.set-item.is
    (subst (λ l. AddsFound (FindsOfSet (domain_of c.args.domain) (map view c.args.lines.now) (map view l)) c.loop-set.findings.items c.push_of_set.new.findings.items c.loop-set.left_out.items c.push_of_set.new.left_out.items) c.as_slice.ensures.value c.in_ok-push_of_set.ensures)
    c.loop-set.invariant

pub returns : goal.returns
returns c =
    let view = λ (x : Bor DemandValue). demand_of x.now in
    each_done (λ (s : Vec (Bor DemandValue)). map view s.items) (FindsOfSet (domain_of c.args.domain) (map view c.args.lines.now)) c.args.sets.now c.loop-set.set-index _ _ _ _ c.loop-set-test.false c.loop-set.invariant
