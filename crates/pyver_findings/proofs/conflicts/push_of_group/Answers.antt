use Rattle.std.proofs.Common.{◌∙◌, [], Bor, ap, map, refl, subst, sym}
use Rattle.std.proofs.lemmas.List.Elements.{All-same}
use Rattle.std.specs.List.{All}
use Rattle.std.specs.Option.{option_map_or}
use Rattle.std.specs.Result.{IfOk}
use Rattle.pyver_findings.proofs.MarkedConflicts.{nothing_found}
use Rattle.pyver_findings.specs.Demands.{IsSound}
use Rattle.pyver_findings.specs.MarkedConflicts.{FindsOfName}
use Rattle.pyver_findings.specs.Views.{AddsFound, demand_of}
use Rattle.pyver_findings.specs.declared.demand.Demand.{Demand as DemandValue}
use Rattle.pyver_markers.specs.Extents.{domain_of}
use Rattle.pyver_findings.proofs.conflicts.push_of_group.Goals as goal

pub push_of_name-requires : goal.push_of_name-requires
push_of_name-requires c =
    let view = λ (x : Bor DemandValue). demand_of x.now in
    All-same IsSound (map view c.as_slice.result.now) (map view c.in-Some.lines.items) (ap (map view) c.as_slice.ensures.value)
    (subst (λ g. All IsSound (map view (option_map_or (λ v. v.items) g []))) c.in-Some.is c.requires)

pub returns-in-Some : goal.returns-in-Some
returns-in-Some c =
    let view = λ (x : Bor DemandValue). demand_of x.now in
    subst (λ lines. IfOk c.push_of_name.result (λ _. AddsFound (FindsOfName (domain_of c.args.domain) lines) c.args.findings.now.items c.push_of_name.new.findings.items c.args.left_out.now.items c.push_of_name.new.left_out.items))
    (ap (map view) c.as_slice.ensures.value ∙ sym (ap (λ g. map view (option_map_or (λ v. v.items) g [])) c.in-Some.is)) c.push_of_name.ensures

pub returns-in-None : goal.returns-in-None
returns-in-None c =
    let view = λ (x : Bor DemandValue). demand_of x.now in
    subst (λ g. AddsFound (FindsOfName (domain_of c.args.domain) (map view (option_map_or (λ v. v.items) g []))) c.args.findings.now.items c.args.findings.now.items c.args.left_out.now.items c.args.left_out.now.items) (sym c.in-None.is)
    (nothing_found (FindsOfName (domain_of c.args.domain) []) _ _ _ _ ([], [], [], [], (refl, refl), (refl, refl), refl, refl) refl refl)
