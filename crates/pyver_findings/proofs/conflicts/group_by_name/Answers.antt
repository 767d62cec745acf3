use Rattle.std.proofs.Common.{◌∙◌, ◌∷◌, ◌++◌, [], Bor, ap, bytes_eq, map, if◌then◌else◌}
use Rattle.std.specs.HashMap.{get_by}
use Rattle.std.specs.Option.{option_map_or}
use Rattle.pyver_findings.specs.Demands.{Demand}
use Rattle.pyver_findings.specs.Views.{demand_of}
use Rattle.pyver_findings.specs.declared.demand.Demand.{Demand as DemandValue}
use Rattle.pyver_requirements.proofs.Grouped.{grouped_more}
use Rattle.pyver_findings.proofs.conflicts.group_by_name.Goals as goal

pub loop-line-preserved : goal.loop-line-preserved
loop-line-preserved c =
    let line = c.line-item.result in
    λ q. grouped_more demand_of (λ (a : Demand). a.name) q c.args.lines.now c.loop-line.line-index line _ _ c.loop-line-test.true c.line-item.is
    (c.in_ok-push_to_group.ensures q
    ∙ ap (λ n. map (λ (x : Bor DemandValue). demand_of x.now) (option_map_or (λ g. g.items) (get_by (λ k. bytes_eq q k.now) c.loop-line.groups) []) ++ (if bytes_eq q n then demand_of line ∷ [] else [])) c.as_slice.ensures.value)
    (c.loop-line.invariant q)
