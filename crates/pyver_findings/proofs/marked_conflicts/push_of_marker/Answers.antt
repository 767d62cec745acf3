use Rattle.std.proofs.Common.{◌≡◌, ◌∙◌, ◌∷◌, ◌++◌, [], Bor, IfOk, ap, map, subst}
use Rattle.pyver_findings.specs.MarkedConflicts.{FindsOfSet}
use Rattle.pyver_findings.specs.Views.{AddsFound, demand_of}
use Rattle.pyver_findings.specs.declared.demand.Demand.{Demand as DemandValue}
use Rattle.pyver_markers.specs.Extents.{domain_of}
use Rattle.pyver_findings.proofs.marked_conflicts.push_of_marker.Goals as goal

pub returns : goal.returns
returns c =
    let view = λ (x : Bor DemandValue). demand_of x.now in
    let set : map view c.as_slice.result.now ≡ view c.args.line ∷ [] = ap (map view) (c.as_slice.ensures.value ∙ c.in_ok-push.ensures.items ∙ ap (λ l. l ++ c.args.line ∷ []) c.new-set.ensures.items) in
    subst (λ s. IfOk c.push_of_set.result (λ _. AddsFound (FindsOfSet (domain_of c.args.domain) (map view c.args.lines.now) s) c.args.findings.now.items c.push_of_set.new.findings.items c.args.left_out.now.items c.push_of_set.new.left_out.items)) set c.push_of_set.ensures
