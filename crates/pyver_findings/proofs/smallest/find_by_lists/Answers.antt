use Rattle.std.proofs.Common.{◌≡◌, ◌++◌, ◌-◌, ◌∙◌, Bor, ap, arith, map, subst, sym, take, true}
use Rattle.std.proofs.lemmas.List.{length-take-le}
use Rattle.pyver_findings.proofs.SmallestLists.{IsRound, last_round, round}
use Rattle.pyver_findings.specs.Conflicts.{have_none, smallest}
use Rattle.pyver_findings.specs.Views.{demand_of}
use Rattle.pyver_findings.specs.declared.demand.Demand.{Demand as DemandValue}
use Rattle.pyver_findings.proofs.smallest.find_by_lists.Goals as goal

pub returns-then-count-eq0 : goal.returns-then-count-eq0
returns-then-count-eq0 c =
    let view = λ (x : Bor DemandValue). demand_of x.now in
    let kept = c.rounds.kept.items in
    let rest = c.rounds.rest.now in
    let none = ap (λ k. have_none (map view (take c.in_ok-count.count rest) ++ map view k)) (sym c.deref.ensures.value) ∙ c.in_ok-count.ensures.enough in
    last_round view (smallest (map view c.args.lines.now)) kept rest (subst (λ n. have_none (map view (take n rest) ++ map view kept) ≡ true) c.if-count-eq0.true none) c.rounds.invariant.1

pub rounds-preserved : goal.rounds-preserved
rounds-preserved c =
    let view = λ (x : Bor DemandValue). demand_of x.now in
    let total = smallest (map view c.args.lines.now) in
    let kept = c.rounds.kept.items in
    let rest = c.rounds.rest.now in
    let count = c.in_ok-count.count in
    let line = c.index-rest-count.result in
    let inside = c.in_ok-count.ensures.inside in
    let none = ap (λ k. have_none (map view (take count rest) ++ map view k)) (sym c.deref.ensures.value) ∙ c.in_ok-count.ensures.enough in
    let some = ap (λ k. have_none (map view (take (count - 1) rest) ++ map view k)) (sym c.deref.ensures.value) ∙ c.in_ok-count.ensures.fewest (omega arith) in (
      omega (arith, inside, c.rounds.invariant.0, length-take-le (count - 1) rest (omega (arith, inside))),
      subst (λ k. IsRound view total k (take (count - 1) rest)) (sym c.in_ok-insert.ensures.items) (round view total kept rest count (count - 1) line (omega arith) (omega (arith, inside)) c.index-rest-count.is none some c.rounds.invariant.1),
    )
