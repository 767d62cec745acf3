use Rattle.std.proofs.Common.{arith, ◌-◌, ◌==◌, ◌≡◌, ◌∙◌, Bor, ap, inl, inr, map, suc, sym}
use Rattle.pyver_findings.proofs.SetsFound.{first_removed, search_done, search_more}
use Rattle.pyver_findings.specs.MarkedConflicts.{search_branches}
use Rattle.pyver_findings.specs.Views.{branch_of, demand_of, demands_of_sets}
use Rattle.pyver_findings.specs.declared.demand.Demand.{Demand as DemandValue}
use Rattle.pyver_findings.proofs.marker_sets.find_conflicting_sets.Goals as goal
use Rattle.pyver_findings.proofs.marker_sets.find_conflicting_sets.Goals.{then-loop-left-test+else-not-is_empty, else-loop-left-test}

pub loop-left-init : goal.loop-left-init
loop-left-init c =
    let lines = map (λ (x : Bor DemandValue). demand_of x.now) c.args.lines.now in
    (λ j. search_branches lines (c.in_ok-queue.ensures j) 1000 (c.in_ok-sets.ensures j))

pub loop-left-preserved : goal.loop-left-preserved
loop-left-preserved c =
    let lines = map (λ (x : Bor DemandValue). demand_of x.now) c.args.lines.now in
    let queue = c.loop-left.queue in
    let branch = c.remove-branch.result in
    let rest = c.remove-branch.new.self.items in
    let left : c.loop-left.left ≡ suc (c.loop-left.left - 1) = omega (arith, c.loop-left-test.true) in
    let some = ap (λ n. n == 0) (sym queue.ok.0) ∙ sym c.if-not-is_empty.ensures in
    search_more lines c.loop-left.left (c.loop-left.left - 1) (map branch_of queue.items) (map branch_of c.visit.new.queue.items) (map branch_of rest) (branch_of branch) (demands_of_sets c.loop-left.sets.items) (demands_of_sets c.visit.new.sets.items) _ left
    (ap (map branch_of) (first_removed queue.items rest branch some c.remove-branch.ensures.value c.remove-branch.ensures.items)) c.in_ok-visit.ensures.sets c.in_ok-visit.ensures.branches c.loop-left.invariant

pub returns : goal.returns
returns c =
    let lines = map (λ (x : Bor DemandValue). demand_of x.now) c.args.lines.now in
    let queue = c.loop-left.queue in
    let nil = ap (λ n. n == 0) queue.ok.0 in
    search_done branch_of lines queue.items c.loop-left.left (demands_of_sets c.loop-left.sets.items) c.is_empty-whole.result _ (c.is_empty-whole.ensures ∙ nil)
    (elim c.loop-left-test.branch [
      | then-loop-left-test+else-not-is_empty w ↦ inr (sym nil ∙ sym w.if-not-is_empty.ensures)
      | else-loop-left-test w ↦ inl (omega (arith, w.loop-left-test.false))
    ]) c.loop-left.invariant
