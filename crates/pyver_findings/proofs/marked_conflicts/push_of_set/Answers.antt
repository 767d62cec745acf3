use Rattle.std.proofs.Common.{◌∙◌, Bor, ap, map, refl, subst, sym}
use Rattle.std.proofs.lemmas.List.Elements.{All-same}
use Rattle.pyver_findings.proofs.MarkedConflicts.{set_decided, set_shared}
use Rattle.pyver_findings.proofs.SetsFound.{sound_under_any}
use Rattle.pyver_findings.proofs.SmallestLists.{nothing_after}
use Rattle.pyver_findings.specs.Conflicts.{have_none}
use Rattle.pyver_findings.specs.Demands.{IsSound}
use Rattle.pyver_findings.specs.MarkedConflicts.{FindsDecided, under_any}
use Rattle.pyver_findings.specs.Views.{AddsFound, demand_of}
use Rattle.pyver_findings.specs.declared.demand.Demand.{Demand as DemandValue}
use Rattle.pyver_markers.specs.Extents.{domain_of}
use Rattle.pyver_findings.proofs.marked_conflicts.push_of_set.Goals as goal

pub returns-then-not-branch : goal.returns-then-not-branch
returns-then-not-branch c =
    let view = λ (x : Bor DemandValue). demand_of x.now in
    let same = nothing_after (map view c.as_slice.result.now) ∙ ap (map view) c.as_slice.ensures.value ∙ c.in_ok-together.ensures in
    set_shared (domain_of c.args.domain) (map view c.args.lines.now) (map view c.args.set.now) _ _ _ _ (sym (ap have_none same) ∙ sym c.in_ok-have_none.ensures ∙ c.if-not-branch.true) refl refl

pub push_by_decision-requires-clause-sound : goal.push_by_decision-requires-clause-sound
push_by_decision-requires-clause-sound c =
    let view = λ (x : Bor DemandValue). demand_of x.now in
    All-same IsSound (map view c.as_slice-2.result.now) (under_any (map view c.args.set.now) (map view c.args.lines.now)) (ap (map view) c.as_slice-2.ensures.value ∙ c.in_ok-together.ensures)
    (sound_under_any (map view c.args.set.now) (map view c.args.lines.now) c.requires)

pub push_by_decision-requires-clause-none : goal.push_by_decision-requires-clause-none
push_by_decision-requires-clause-none c =
    let view = λ (x : Bor DemandValue). demand_of x.now in
    let same = nothing_after (map view c.as_slice.result.now) ∙ ap (map view) c.as_slice.ensures.value in
    ap have_none (ap (map view) c.as_slice-2.ensures.value) ∙ sym (ap have_none same) ∙ sym c.in_ok-have_none.ensures ∙ c.if-not-branch.false

pub returns : goal.returns
returns c =
    let view = λ (x : Bor DemandValue). demand_of x.now in
    set_decided (domain_of c.args.domain) (map view c.args.lines.now) (map view c.args.set.now) _ _ _ _ c.in_ok-decision.decision c.in_ok-decision.ensures
    (subst (λ l. AddsFound (FindsDecided c.in_ok-decision.decision l) c.args.findings.now.items c.push_by_decision.new.findings.items c.args.left_out.now.items c.push_by_decision.new.left_out.items)
    (ap (map view) c.as_slice-2.ensures.value ∙ c.in_ok-together.ensures) c.in_ok-push_by_decision.ensures)
