use Rattle.std.proofs.Common.{Bor, map}
use Rattle.pyver_findings.specs.Views.{demand_of}
use Rattle.pyver_findings.specs.declared.demand.Demand.{Demand as DemandValue}
use Rattle.std.proofs.lemmas.Result.{IfOk-weaker}
use Rattle.pyver_findings.proofs.SmallestLists.{needs_smallest}
use Rattle.pyver_findings.proofs.halves.find_by_sets.Goals as goal

pub returns : goal.returns
returns c =
    let view = λ (x : Bor DemandValue). demand_of x.now in
    IfOk-weaker c.find_core.result _ _ (λ kept needed. needs_smallest c.in_ok-all.all (map view c.args.lines.now) (map view kept.items) c.in_ok-all.ensures needed) c.find_core.ensures.kept
