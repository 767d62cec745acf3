use Rattle.std.proofs.Common.{◌∙◌, List, [], ℕ, Bor, ap, bytes_eq, map, refl, sym, take}
use Rattle.std.proofs.lemmas.Bool.{true≢false}
use Rattle.std.specs.HashMap.{get_by}
use Rattle.std.specs.List.{list_any}
use Rattle.std.specs.Option.{option_map_or}
use Rattle.pyver_findings.specs.Conflicts.{first_mentions, has_marker, has_same_marker}
use Rattle.pyver_findings.specs.MarkedConflicts.{FindsOfEach}
use Rattle.pyver_findings.specs.Views.{demand_of}
use Rattle.pyver_findings.specs.declared.demand.Demand.{Demand as DemandValue}
use Rattle.pyver_findings.proofs.Grouping.{at_line, taken_more}
use Rattle.pyver_findings.proofs.MarkedConflicts.{marker_looked, marker_passed, mention_more, mentions_done, of_marker_of, start}
use Rattle.pyver_markers.specs.Extents.{domain_of}
use Rattle.pyver_findings.proofs.marked_conflicts.push_of_each_marker.Goals as goal
use Rattle.pyver_findings.proofs.marked_conflicts.push_of_each_marker.Goals.{then-branch+in_ok-push_of_marker, else-branch}

pub loop-line-init : goal.loop-line-init
loop-line-init c = (start _ _ _ _ _ refl refl, c.in_ok-groups.ensures)

pub loop-line-preserved : goal.loop-line-preserved
loop-line-preserved c =
    let view = λ (x : Bor DemandValue). demand_of x.now in
    let all = c.args.lines.now in
    let lines = map view all in
    let at = c.loop-line.line-index in
    let line = c.line-item.result in
    let domain = domain_of c.args.domain in
    let any = list_any (has_same_marker (view line)) (map view (take at all)) in
    let groups = λ (q : List ℕ). map view (option_map_or (λ g. g.items) (get_by (λ k. bytes_eq q k.now) c.loop-line.groups) []) in
    let excluded = at_line (view line) c.in_ok-excludes_all.field-0 lines (map view c.args.always.now) (map view (take at all)) groups c.requires.sound c.requires.always c.requires.some c.loop-line.invariant.1 c.in_ok-excludes_all.ensures.none in (
      mention_more has_same_marker (of_marker_of domain lines) view all at line _ _ _ _ _ _ c.loop-line-test.true c.line-item.is
          (elim c.if-branch.branch [
            | then-branch+in_ok-push_of_marker w ↦ rw (← w.findings-is, ← w.left_out-is) at (marker_looked domain lines (view line) any _ _ _ _ (λ e. true≢false (sym w.if-branch.true ∙ excluded.0 e)) w.in_ok-push_of_marker.ensures)
            | else-branch w ↦ marker_passed domain lines (view line) any _ _ _ _ (λ e. sym (excluded.1 e) ∙ w.if-branch.false) (ap (λ fs. fs.items) w.findings-is) (ap (λ cs. cs.items) w.left_out-is)
          ])
          c.loop-line.invariant.0,
      λ q. taken_more (λ g. map view (option_map_or (λ v. v.items) g [])) refl view (has_marker q) all at line _ _ _ c.loop-line-test.true c.line-item.is (c.in_ok-excludes_all.ensures.taken q) (c.loop-line.invariant.1 q),
    )

pub returns : goal.returns
returns c =
    let view = λ (x : Bor DemandValue). demand_of x.now in
    let lines = map view c.args.lines.now in
    let found = of_marker_of (domain_of c.args.domain) lines in
    mentions_done has_same_marker found view c.args.lines.now c.loop-line.line-index _ (FindsOfEach found (first_mentions has_same_marker [] lines)) _ _ _ _ c.loop-line-test.false c.loop-line.invariant.0
