use Rattle.std.proofs.Common.{arith, ◌-◌, ◌/◌, ◌<◌, ◌∷◌, ◌∙◌, [], Bor, ap, drop, length, map, subst, sym, take}
use Rattle.std.proofs.lemmas.Bool.{true≢false}
use Rattle.std.proofs.lemmas.List.{take_rest}
use Rattle.std.specs.List.{All}
use Rattle.pyver_findings.specs.Conflicts.{IsNeeded}
use Rattle.pyver_findings.specs.Demands.{IsSound}
use Rattle.pyver_findings.specs.Views.{demand_of}
use Rattle.pyver_findings.specs.declared.demand.Demand.{Demand as DemandValue}
use Rattle.pyver_requirements.proofs.Grouped.{is_nil}
use Rattle.pyver_findings.proofs.SmallestLists.{Narrows, first_smaller, half_smaller, needs_halves, needs_none, needs_one, nil_needed, not_nil, one_of, sound_front, sound_joined, sound_rest}
use Rattle.pyver_findings.proofs.halves.+find_core.Goals as goal
use Rattle.pyver_findings.proofs.halves.+find_core.Goals.{then-is_empty-via-then-is_empty, then-is_empty-via-else-is_empty+then-is_empty-2}

pub returns-then-is_empty-clause-kept : goal.returns-then-is_empty-clause-kept
returns-then-is_empty-clause-kept t c =
    let view = λ (x : Bor DemandValue). demand_of x.now in
    let set = c.args.allowed.now in
    let lines = c.args.lines.now in
    subst (λ ks. IsNeeded set (map view lines) (map view ks)) (sym c.new.ensures.items)
    (elim c.then-is_empty.branch [
      | then-is_empty-via-then-is_empty w ↦ needs_none set (map view lines) c.requires (c.is_empty.ensures.0 w.if-is_empty.true)
      | then-is_empty-via-else-is_empty+then-is_empty-2 w ↦ subst (λ ls. IsNeeded set (map view ls) []) (sym (is_nil lines (sym w.is_empty-else-is_empty.ensures ∙ w.if-is_empty-2.true))) (nil_needed set)
    ])

pub returns-then-lines-eq1-clause-sound : goal.returns-then-lines-eq1-clause-sound
returns-then-lines-eq1-clause-sound t c =
    let view = λ (x : Bor DemandValue). demand_of x.now in
    let same = ap (map view) (one_of c.args.lines.now c.index-lines-0.result c.if-lines-eq1.true c.index-lines-0.is) ∙ sym c.in_ok-kept.ensures in
    subst (All IsSound) same c.requires

pub returns-then-lines-eq1-clause-kept : goal.returns-then-lines-eq1-clause-kept
returns-then-lines-eq1-clause-kept t c =
    let view = λ (x : Bor DemandValue). demand_of x.now in
    let set = c.args.allowed.now in
    let kept = map view c.in_ok-kept.kept.items in
    let same = ap (map view) (one_of c.args.lines.now c.index-lines-0.result c.if-lines-eq1.true c.index-lines-0.is) in
    subst (λ ls. IsNeeded set ls kept) (sym same)
    (subst (IsNeeded set (view c.index-lines-0.result ∷ [])) (sym c.in_ok-kept.ensures)
    (needs_one set (view c.index-lines-0.result) (λ empty. true≢false (sym (c.is_empty.ensures.1 empty) ∙ c.if-is_empty.false))))

pub narrow-requires : goal.narrow-requires
narrow-requires t c =
    let view = λ (x : Bor DemandValue). demand_of x.now in
    sound_front view c.args.lines.now (length c.args.lines.now / 2) c.requires

pub find_core-requires : goal.find_core-requires
find_core-requires t c =
    let view = λ (x : Bor DemandValue). demand_of x.now in
    let lines = c.args.lines.now in
    let some : 0 < length lines = not_nil lines _ c.is_empty-else-is_empty.ensures c.if-is_empty-2.false in
    let smaller = half_smaller lines some c.if-lines-eq1.false in
    let less : length (take (length lines - length lines / 2) (drop (length lines / 2) lines)) < t = omega (arith, smaller, c.decreases) in
    (less, subst (λ ls. All IsSound (map view ls)) (sym (take_rest lines (length lines / 2))) (sound_rest view lines (length lines / 2) c.requires))

pub narrow-requires-2 : goal.narrow-requires-2
narrow-requires-2 t c =
    let view = λ (x : Bor DemandValue). demand_of x.now in
    subst (λ xs. All IsSound (map view xs)) (sym c.as_slice.ensures.value) c.in_ok-later.ensures.sound

pub find_core-requires-2 : goal.find_core-requires-2
find_core-requires-2 t c =
    let view = λ (x : Bor DemandValue). demand_of x.now in
    let lines = c.args.lines.now in
    let some : 0 < length lines = not_nil lines _ c.is_empty-else-is_empty.ensures c.if-is_empty-2.false in
    let smaller = first_smaller lines some in
    let less : length (take (length lines / 2) lines) < t = omega (arith, smaller, c.decreases) in
    (less, sound_front view lines (length lines / 2) c.requires)

pub returns-clause-sound : goal.returns-clause-sound
returns-clause-sound t c =
    let view = λ (x : Bor DemandValue). demand_of x.now in
    sound_joined view c.in_ok-kept-2.kept.items c.in_ok-later.later.items c.append.new.self.items c.in_ok-append.ensures.items c.in_ok-kept-2.ensures.sound c.in_ok-later.ensures.sound

pub returns-clause-kept : goal.returns-clause-kept
returns-clause-kept t c =
    let view = λ (x : Bor DemandValue). demand_of x.now in
    let lines = c.args.lines.now in
    let later = c.in_ok-later.later.items in
    needs_halves view c.args.allowed.now c.in_ok-beside_first.beside_first c.in_ok-beside_later.beside_later lines (length lines / 2) later c.in_ok-kept-2.kept.items c.append.new.self.items c.in_ok-append.ensures.items c.requires
    c.in_ok-later.ensures.sound c.in_ok-beside_first.ensures
    (subst (λ xs. Narrows c.args.allowed.now (map view xs) c.in_ok-beside_later.beside_later) c.as_slice.ensures.value c.in_ok-beside_later.ensures) (subst (λ ls. IsNeeded c.in_ok-beside_first.beside_first (map view ls) (map view later)) (take_rest lines (length lines / 2)) c.in_ok-later.ensures.kept) c.in_ok-kept-2.ensures.kept
