use Rattle.std.proofs.Common.{◌≡◌, ◌++◌, ◌∙◌, List, [], None, Some, ℕ, Bor, ap, bytes_eq, cond, map, option_map, sym}
use Rattle.std.proofs.lemmas.Map.Text.{hash_map_updates_str}
use Rattle.std.proofs.lemmas.Result.{IfOk-weaker}
use Rattle.std.specs.HashMap.{get_by}
use Rattle.std.specs.Option.{option_map_or}
use Rattle.pyver_findings.specs.Conflicts.{have_none, same_marker}
use Rattle.pyver_findings.specs.Views.{demand_of}
use Rattle.pyver_findings.specs.declared.demand.Demand.{Demand as DemandValue}
use Rattle.pyver_requirements.proofs.Grouped.{swap}
use Rattle.pyver_findings.proofs.marker.excludes_all.Goals as goal

pub returns-in-Some-remove-clause-none : goal.returns-in-Some-remove-clause-none
returns-in-Some-remove-clause-none c =
    let view = λ (x : Bor DemandValue). demand_of x.now in
    let always = map view c.args.always.now in
    let key = c.as_slice.result.now in
    let own = λ (m : List ℕ). map view (option_map_or (λ g. g.items) (get_by (λ k. bytes_eq m k.now) c.args.groups.now) []) in
    let group : map view c.as_slice-in-Some-remove.result.now ≡ option_map_or own (option_map (λ m. m.items) c.args.line.now.marker) [] =
    ap (map view) (c.as_slice-in-Some-remove.ensures.value ∙ ap (λ g. option_map_or (λ v. v.items) g []) (sym c.in-Some-remove.is ∙ c.remove.ensures.value))
    ∙ ap own c.as_slice.ensures.value ∙ ap (λ m. option_map_or own (option_map (λ n. n.items) m) []) (sym c.in-Some.is) in
    IfOk-weaker c.have_none.result (λ none. none ≡ have_none (always ++ map view c.as_slice-in-Some-remove.result.now)) (λ none. none ≡ have_none (always ++ option_map_or own (option_map (λ m. m.items) c.args.line.now.marker) []))
    (λ none e. e ∙ ap (λ g. have_none (always ++ g)) group) c.have_none.ensures

pub returns-in-Some-remove-clause-taken : goal.returns-in-Some-remove-clause-taken
returns-in-Some-remove-clause-taken c = λ q.
    let key = c.as_slice.result.now in
    let old = get_by (λ k. bytes_eq q k.now) c.args.groups.now in
    hash_map_updates_str key c.args.groups.now c.remove.new.self _ c.remove.ensures.updates q ∙ ap (λ b. cond b None old) (swap key q ∙ ap (bytes_eq q) c.as_slice.ensures.value)
    ∙ ap (λ m. cond (same_marker (Some q) (option_map (λ n. n.items) m)) None old) (sym c.in-Some.is)
