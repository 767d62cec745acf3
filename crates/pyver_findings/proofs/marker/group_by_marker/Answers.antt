use Rattle.std.proofs.Common.{Bor}
use Rattle.pyver_findings.specs.Conflicts.{has_marker}
use Rattle.pyver_findings.specs.Views.{demand_of}
use Rattle.pyver_findings.specs.declared.demand.Demand.{Demand as DemandValue}
use Rattle.pyver_requirements.proofs.Grouped.{chosen_more}
use Rattle.pyver_findings.proofs.marker.group_by_marker.Goals as goal

pub loop-line-preserved : goal.loop-line-preserved
loop-line-preserved c =
    λ q. chosen_more (λ (x : Bor DemandValue). demand_of x.now) (has_marker q) c.args.lines.now c.loop-line.line-index c.line-item.result _ _ c.loop-line-test.true c.line-item.is (c.in_ok-push_to_marker.ensures q) (c.loop-line.invariant q)
