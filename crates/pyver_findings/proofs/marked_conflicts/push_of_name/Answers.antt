use Rattle.std.proofs.Common.{◌∙◌, None, Bor, ap, map, refl, sym, subst}
use Rattle.std.proofs.lemmas.List.Elements.{All-same}
use Rattle.std.proofs.lemmas.Result.{IfOk-weaker}
use Rattle.pyver_findings.proofs.MarkedConflicts.{marked_found, unmarked_found}
use Rattle.pyver_findings.proofs.SmallestLists.{nothing_after, sound_unmarked}
use Rattle.pyver_findings.specs.Conflicts.{have_none, of_all, unmarked}
use Rattle.pyver_findings.specs.Demands.{IsSound}
use Rattle.pyver_findings.specs.MarkedConflicts.{FindsOfFirsts, FindsOfName, few_first_lines}
use Rattle.pyver_findings.specs.Views.{AddsFindings, AddsFound, demand_of}
use Rattle.pyver_findings.specs.declared.demand.Demand.{Demand as DemandValue}
use Rattle.pyver_markers.specs.Extents.{domain_of}
use Rattle.pyver_findings.proofs.marked_conflicts.push_of_name.Goals as goal

pub push_of_all-requires : goal.push_of_all-requires
push_of_all-requires c =
    let view = λ (x : Bor DemandValue). demand_of x.now in
    All-same IsSound (map view c.as_slice-then-branch.result.now) (unmarked (map view c.args.lines.now)) (ap (map view) c.as_slice-then-branch.ensures.value ∙ c.in_ok-always.ensures) (sound_unmarked (map view c.args.lines.now) c.requires)

pub returns-then-branch : goal.returns-then-branch
returns-then-branch c =
    let view = λ (x : Bor DemandValue). demand_of x.now in
    let lines = map view c.args.lines.now in
    let old = c.args.findings.now.items in
    let new = c.push_of_all.new.findings.items in
    let left = c.args.left_out.now.items in
    let same = nothing_after (map view c.as_slice.result.now) ∙ ap (map view) c.as_slice.ensures.value ∙ c.in_ok-always.ensures in
    let none = sym (ap have_none same) ∙ sym c.in_ok-have_none.ensures ∙ c.if-branch.true in
    IfOk-weaker c.push_of_all.result (λ _. AddsFindings old new (of_all None (map view c.as_slice-then-branch.result.now))) (λ _. AddsFound (FindsOfName (domain_of c.args.domain) lines) old new left left)
    (λ _ adds. unmarked_found (domain_of c.args.domain) lines old new left left none (subst (λ l. AddsFindings old new (of_all None l)) (ap (map view) c.as_slice-then-branch.ensures.value ∙ c.in_ok-always.ensures) adds) refl) c.push_of_all.ensures

pub returns : goal.returns
returns c =
    let view = λ (x : Bor DemandValue). demand_of x.now in
    let lines = map view c.args.lines.now in
    let domain = domain_of c.args.domain in
    let old = c.args.findings.now.items in
    let new = c.push_of_each_marker.new.findings.items in
    let more = c.push_of_markers.new.findings.items in
    let before = c.args.left_out.now.items in
    let after = c.push_of_each_marker.new.left_out.items in
    let last = c.push_of_markers.new.left_out.items in
    let same = nothing_after (map view c.as_slice.result.now) ∙ ap (map view) c.as_slice.ensures.value ∙ c.in_ok-always.ensures in
    let some = sym (ap have_none same) ∙ sym c.in_ok-have_none.ensures ∙ c.if-branch.false in
    IfOk-weaker c.push_of_markers.result (λ _. AddsFound (FindsOfFirsts domain lines (few_first_lines lines)) new more after last) (λ _. AddsFound (FindsOfName domain lines) old more before last)
    (λ _ several. marked_found domain lines old new before after more last some c.in_ok-push_of_each_marker.ensures several) c.push_of_markers.ensures
