use Rattle.std.proofs.Common.{◌≡◌, ◌∙◌, ◌++◌, ◌<◌, ap, arith, get_or, inl, inr, length, nat_eq, sym, take}
use Rattle.std.proofs.lemmas.Bool.{cases_Bool}
use Rattle.std.proofs.lemmas.List.{length-take-le, take-append-drop, take_all, take_more_same}
use Rattle.std.specs.Cmp.Lexicographic.{same_text}
use Rattle.std.specs.List.{starts_with}
use Rattle.pep440_compiled.proofs.stack_form.strip_word.Goals as goal

pub loop-i-preserved : goal.loop-i-preserved
loop-i-preserved c =
    let word = c.args.word.now in
    let text = c.args.text.now in
    let split = c.in_ok-start.ensures.cases in
    let inside : c.loop-i.i < length c.in_ok-start.start.now = omega (arith, c.loop-i-test.true, ap length split.1, length-take-le (length word) text split.0) in
    take_more_same c.in_ok-start.start.now word c.loop-i.i 0 inside c.loop-i-test.true c.loop-i.invariant c.if-start-i.false

pub returns-then-start-i : goal.returns-then-start-i
returns-then-start-i c = elim (cases_Bool (starts_with nat_eq c.args.text.now c.args.word.now)) [
  | inl begins ↦
      let same = c.in_ok-start.ensures.cases.1 ∙ sym (same_text c.args.word.now (take (length c.args.word.now) c.args.text.now) (sym begins)) in
      absurd (c.if-start-i.true (ap (λ l. get_or l c.loop-i.i 0) same))
  | inr other ↦ other
]

pub returns : goal.returns
returns c =
    let word = c.args.word.now in
    let text = c.args.text.now in
    let start = c.in_ok-start.start.now in
    let split = c.in_ok-start.ensures.cases in
    let count = ap length split.1 ∙ length-take-le (length word) text split.0 in
    let same : start ≡ word = sym (take_all c.loop-i.i start (omega (arith, count, c.loop-i-test.false))) ∙ c.loop-i.invariant ∙ take_all c.loop-i.i word (omega (arith, c.loop-i-test.false)) in
    sym (take-append-drop (length word) text) ∙ (λ i. sym split.1 i ++ sym split.2 i) ∙ ap (λ l. l ++ c.in_ok-start.rest.now) same
