use Rattle.std.proofs.Common.{◌≡◌, ◌++◌, ◌∷◌, ◌∙◌, [], Bor, ap, map, option_map, refl, subst, sym}
use Rattle.std.proofs.lemmas.Result.{IfOk-weaker}
use Rattle.pyver_findings.proofs.MarkedConflicts.{name_searched, name_undecided, sets_cut, sets_whole}
use Rattle.pyver_findings.specs.MarkedConflicts.{FindsOfEach, FindsOfFirsts, FindsOfSet, conflicting_sets, few_first_lines, lines_to_pair}
use Rattle.pyver_findings.specs.Views.{AddsFound, demand_of, demands_of_sets, found_sets_of}
use Rattle.pyver_requirements.specs.declared.cause.Cause.TheVariants as cause
use Rattle.pyver_findings.specs.declared.demand.Demand.{Demand as DemandValue}
use Rattle.pyver_markers.specs.Extents.{domain_of}
use Rattle.pyver_findings.proofs.marked_conflicts.push_of_markers.Goals as goal

pub returns-in_default : goal.returns-in_default
returns-in_default c =
    let view = λ (x : Bor DemandValue). demand_of x.now in
    let lines = map view c.args.lines.now in
    let old = c.args.findings.now.items in
    let before = c.args.left_out.now.items in
    let after = c.push_undecided_cause.new.left_out.items in
    let many = sym (ap (option_map (λ f. map view f.items)) c.in_default.is) ∙ c.in_ok-firsts.ensures in
    IfOk-weaker c.push_undecided_cause.result (λ _. after ≡ before ++ cause.Undecided ∷ []) (λ _. AddsFound (FindsOfFirsts (domain_of c.args.domain) lines (few_first_lines lines)) old old before after) (λ _ also. name_undecided (domain_of c.args.domain) lines old old before after many refl also) c.push_undecided_cause.ensures

pub returns-then-found : goal.returns-then-found
returns-then-found c =
    let view = λ (x : Bor DemandValue). demand_of x.now in
    let lines = map view c.args.lines.now in
    let old = c.args.findings.now.items in
    let new = c.push_of_each_set.new.findings.items in
    let before = c.args.left_out.now.items in
    let after = c.push_of_each_set.new.left_out.items in
    let few = sym (ap (option_map (λ f. map view f.items)) c.in-Some.is) ∙ c.in_ok-firsts.ensures in
    let paired = ap (map view) c.as_slice-2.ensures.value ∙ c.in_ok-paired.ensures ∙ ap (λ l. lines_to_pair lines (map view l)) c.as_slice.ensures.value in
    let found = c.in_ok-found.found in
    let adds = subst (λ l. AddsFound (FindsOfEach (FindsOfSet (domain_of c.args.domain) lines) (demands_of_sets l)) old new before after) c.as_slice-3.ensures.value c.in_ok-push_of_each_set.ensures in
    name_searched (domain_of c.args.domain) lines old new before after (map view c.in-Some.firsts.items) (found_sets_of found) few (c.in_ok-found.ensures ∙ ap (conflicting_sets lines) paired)
    (sets_whole (domain_of c.args.domain) lines (demands_of_sets found.sets.items) old new before after found.whole c.if-found.true adds)

pub returns : goal.returns
returns c =
    let view = λ (x : Bor DemandValue). demand_of x.now in
    let lines = map view c.args.lines.now in
    let old = c.args.findings.now.items in
    let new = c.push_of_each_set.new.findings.items in
    let before = c.args.left_out.now.items in
    let after = c.push_of_each_set.new.left_out.items in
    let last = c.push_undecided_cause-2.new.left_out.items in
    let few = sym (ap (option_map (λ f. map view f.items)) c.in-Some.is) ∙ c.in_ok-firsts.ensures in
    let paired = ap (map view) c.as_slice-2.ensures.value ∙ c.in_ok-paired.ensures ∙ ap (λ l. lines_to_pair lines (map view l)) c.as_slice.ensures.value in
    let found = c.in_ok-found.found in
    let adds = subst (λ l. AddsFound (FindsOfEach (FindsOfSet (domain_of c.args.domain) lines) (demands_of_sets l)) old new before after) c.as_slice-3.ensures.value c.in_ok-push_of_each_set.ensures in
    IfOk-weaker c.push_undecided_cause-2.result (λ _. last ≡ after ++ cause.Undecided ∷ []) (λ _. AddsFound (FindsOfFirsts (domain_of c.args.domain) lines (few_first_lines lines)) old new before last)
    (λ _ more. name_searched (domain_of c.args.domain) lines old new before last (map view c.in-Some.firsts.items) (found_sets_of found) few (c.in_ok-found.ensures ∙ ap (conflicting_sets lines) paired)
    (sets_cut (domain_of c.args.domain) lines (demands_of_sets found.sets.items) old new before after found.whole last c.if-found.false more adds)) c.push_undecided_cause-2.ensures
