use Rattle.std.proofs.Common.{◌∷◌, ◌∙◌, [], Bor, ap, map, sym}
use Rattle.std.proofs.lemmas.List.{map-append}
use Rattle.std.proofs.lemmas.List.Elements.{All-same}
use Rattle.std.specs.Global.{Vec}
use Rattle.std.specs.List.{filter, list_any}
use Rattle.pyver_findings.proofs.SetsFound.{not_some, set_more, sound_under_any}
use Rattle.pyver_findings.proofs.SmallestLists.{nothing_after}
use Rattle.pyver_findings.specs.Conflicts.{has_same_marker, have_none, smallest}
use Rattle.pyver_findings.specs.Demands.{Demand, IsSound}
use Rattle.pyver_findings.specs.MarkedConflicts.{set_among, under_any}
use Rattle.pyver_findings.specs.Views.{demand_of}
use Rattle.pyver_findings.specs.declared.demand.Demand.{Demand as DemandValue}
use Rattle.pyver_findings.proofs.marker_sets.push_set.Goals as goal

pub find_smallest-requires-clause-sound : goal.find_smallest-requires-clause-sound
find_smallest-requires-clause-sound c =
    let view = λ (x : Bor DemandValue). demand_of x.now in
    let firsts = map view c.args.firsts.now in
    let lines = map view c.args.lines.now in
    All-same IsSound (map view c.as_slice-3.result.now) (under_any firsts lines) (ap (map view) c.as_slice-3.ensures.value ∙ c.in_ok-together.ensures) (sound_under_any firsts lines c.requires)

pub returns : goal.returns
returns c =
    let view = λ (x : Bor DemandValue). demand_of x.now in
    let views = λ (s : Vec (Bor DemandValue)). map view s.items in
    let firsts = map view c.args.firsts.now in
    let lines = map view c.args.lines.now in
    let sets = c.args.sets.now.items in
    let together = nothing_after (map view c.as_slice-2.result.now) ∙ ap (map view) c.as_slice-2.ensures.value ∙ c.in_ok-together.ensures in
    let kept = ap (map view) c.as_slice-4.ensures.value ∙ c.in_ok-kept.ensures ∙ ap smallest (ap (map view) c.as_slice-3.ensures.value ∙ c.in_ok-together.ensures) in
    let none = ap (λ s. set_among firsts (map views s)) (sym c.as_slice.ensures.value) ∙ sym c.in_ok-find_among.ensures ∙ not_some views c.in_ok-find_among.field-0 (sym c.if-is_some.ensures) in
    let set = c.in_ok-set.ensures ∙ ap (λ ks. filter (λ (a : Demand). list_any (has_same_marker a) ks) firsts) kept in
    ap (map views) c.in_ok-push.ensures.items ∙ map-append views sets (c.in_ok-set.set ∷ [])
    ∙ set_more lines firsts (map views sets) (views c.in_ok-set.set) none (sym (ap have_none together) ∙ sym c.in_ok-have_none.ensures ∙ c.if-not-branch.false) set
