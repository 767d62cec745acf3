use Rattle.std.proofs.Common.{arith, ◌≡◌, ◌==◌, ◌+◌, ◌≤◌, ◌∙◌, ◌||◌, Bool, List, [], ap, bytes_eq, false, is_some, length, map, subst, suc, sym, ℕ}
use Rattle.std.proofs.lemmas.List.{length-map}
use Rattle.std.specs.List.{list_any}
use Rattle.std.specs.Map.{lookup}
use Rattle.pyver_projects.proofs.Walks.{IsWalked, all_reached, at_start, one_step}
use Rattle.pyver_projects.specs.ProjectStrings.{includes_by, includes_within, has_key, inclusions_of, inclusion_of}
use Rattle.pyver_requirements.proofs.Grouped.{is_nil}
use Rattle.pyver_projects.proofs.inclusions.included_groups.Goals as goal

pub loop-steps-init : goal.loop-steps-init
loop-steps-init c =
    let group = c.args.group.now in
    let none : (q : List ℕ) → has_key c.new-names.result q ≡ false = λ q. ap (λ es. is_some (lookup (λ k. bytes_eq q k.now) es)) c.new-names.ensures.empty in
    at_start (inclusions_of c.args.index.now) group (has_key c.push_new.new.names) _ (λ q. c.in_ok-push_new.ensures.names q ∙ ap (λ b. b || bytes_eq q group) (none q))
    (λ q. c.in_ok-push_new.ensures.found (λ r. false) (λ r. none r ∙ ap (λ xs. list_any (bytes_eq r) (map (λ n. n.now) xs)) (sym c.new-groups.ensures.items)) q)

pub returns-then-is_empty : goal.returns-then-is_empty
returns-then-is_empty c =
    let is = inclusions_of c.args.index.now in
    let group = c.args.group.now in
    let known = has_key c.loop-steps.names in
    let n = c.loop-steps.steps in
    let nil : c.loop-steps.groups.items ≡ [] = is_nil c.loop-steps.groups.items (ap (λ m. m == 0) (sym c.loop-steps.groups.ok.0) ∙ sym c.is_empty.ensures ∙ c.if-is_empty.true) in
    let inside : n ≤ length is = omega (arith, c.loop-steps-test.true, length-map c.args.index.now.inclusions.now inclusion_of) in
    all_reached is group n known (subst (λ xs. IsWalked is group n known (λ q. list_any (bytes_eq q) (map (λ m. m.now) xs))) nil c.loop-steps.invariant) inside

pub loop-steps-preserved : goal.loop-steps-preserved
loop-steps-preserved c =
    let is = inclusions_of c.args.index.now in
    let group = c.args.group.now in
    let n = c.loop-steps.steps in
    let more : suc n ≡ n + 1 = omega arith in
    let front : List ℕ → Bool = λ q. list_any (bytes_eq q) (map (λ m. m.now) c.in_ok-groups.groups.items) in
    subst (λ m. IsWalked is group m (has_key c.next_groups.new.names) front) more
    (one_step is group n (has_key c.loop-steps.names) (λ q. list_any (bytes_eq q) (map (λ m. m.now) c.loop-steps.groups.items)) (has_key c.next_groups.new.names) front c.loop-steps.invariant
    (λ q. c.in_ok-groups.ensures.names q ∙ ap (λ xs. has_key c.loop-steps.names q || list_any (includes_by (λ r. list_any (bytes_eq r) (map (λ m. m.now) xs)) q) is) c.as_slice.ensures.value) c.in_ok-groups.ensures.found)

pub returns : goal.returns
returns c =
    let is = inclusions_of c.args.index.now in
    let group = c.args.group.now in
    let last : c.loop-steps.steps ≡ length is = omega (arith, c.loop-steps-test.false, c.loop-steps.auto.steps-end, length-map c.args.index.now.inclusions.now inclusion_of) in
    λ q. c.loop-steps.invariant.reached q ∙ ap (λ n. includes_within is group n q) last
