use Rattle.std.proofs.Common.{◌∙◌, [], Bor, None, ap, bytes_eq, cond, map, refl, take}
use Rattle.std.proofs.lemmas.Map.Text.{hash_map_updates_str}
use Rattle.std.specs.HashMap.{get_by}
use Rattle.std.specs.List.{filter, list_any}
use Rattle.std.specs.Option.{option_map_or}
use Rattle.pyver_requirements.proofs.Grouped.{swap}
use Rattle.pyver_findings.proofs.Grouping.{sound_taken, taken_more}
use Rattle.pyver_findings.proofs.MarkedConflicts.{mention_more, mentions_done, of_name_of, start, taken_found}
use Rattle.pyver_findings.specs.Conflicts.{first_mentions, has_same_name}
use Rattle.pyver_findings.specs.Demands.{Demand}
use Rattle.pyver_findings.specs.MarkedConflicts.{FindsOfEach}
use Rattle.pyver_findings.specs.Views.{demand_of}
use Rattle.pyver_markers.specs.Extents.{domain_of}
use Rattle.pyver_findings.specs.declared.demand.Demand.{Demand as DemandValue}
use Rattle.pyver_findings.proofs.conflicts.push_conflicts.Goals as goal

pub push_of_group-requires : goal.push_of_group-requires
push_of_group-requires c =
    let lines = c.args.lines.now in
    let name = c.line-item.result.name.items in
    sound_taken (list_any (λ (a : Demand). bytes_eq name a.name) (map demand_of (take c.loop-line.line-index lines))) (λ (a : Demand). bytes_eq name a.name) (map demand_of lines) _ c.requires
    (ap (λ g. map (λ (x : Bor DemandValue). demand_of x.now) (option_map_or (λ v. v.items) g []))
    (c.remove-group.ensures.value ∙ ap (λ n. get_by (λ k. bytes_eq n k.now) c.loop-line.groups) c.as_slice.ensures.value) ∙ c.loop-line.invariant.1 name)

pub loop-line-init : goal.loop-line-init
loop-line-init c = (start _ _ _ _ _ refl refl, c.in_ok-groups.ensures)

pub loop-line-preserved : goal.loop-line-preserved
loop-line-preserved c =
    let lines = c.args.lines.now in
    let at = c.loop-line.line-index in
    let line = c.line-item.result in
    let name = line.name.items in
    let key = c.as_slice.result.now in
    let same = c.as_slice.ensures.value in (
      mention_more has_same_name (of_name_of (domain_of c.args.domain) (map demand_of lines)) demand_of lines at line _ _ _ _ _ _ c.loop-line-test.true c.line-item.is
          (taken_found (domain_of c.args.domain) (list_any (has_same_name (demand_of line)) (map demand_of (take at lines))) (filter (has_same_name (demand_of line)) (map demand_of lines)) _ _ _ _ _
          (ap (λ g. map (λ (x : Bor DemandValue). demand_of x.now) (option_map_or (λ v. v.items) g []))
          (c.remove-group.ensures.value ∙ ap (λ n. get_by (λ k. bytes_eq n k.now) c.loop-line.groups) same) ∙ c.loop-line.invariant.1 name)
          c.in_ok-push_of_group.ensures)
          c.loop-line.invariant.0,
      λ q. taken_more (λ g. map (λ (x : Bor DemandValue). demand_of x.now) (option_map_or (λ v. v.items) g [])) refl demand_of (λ (a : Demand). bytes_eq q a.name) lines at line _ _ _ c.loop-line-test.true c.line-item.is
          (hash_map_updates_str key c.loop-line.groups c.remove-group.new.self _ c.remove-group.ensures.updates q ∙ ap (λ n. cond (bytes_eq n q) None (get_by (λ k. bytes_eq q k.now) c.loop-line.groups)) same
          ∙ ap (λ b. cond b None (get_by (λ k. bytes_eq q k.now) c.loop-line.groups)) (swap name q)) (c.loop-line.invariant.1 q),
    )

pub returns : goal.returns
returns c =
    let lines = map demand_of c.args.lines.now in
    mentions_done has_same_name (of_name_of (domain_of c.args.domain) lines) demand_of c.args.lines.now c.loop-line.line-index _ (FindsOfEach (of_name_of (domain_of c.args.domain) lines) (first_mentions has_same_name [] lines)) _ _ _ _ c.loop-line-test.false c.loop-line.invariant.0
