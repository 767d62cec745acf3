use Rattle.std.proofs.Common.{◌∙◌, ◌++◌, ◌∷◌, [], ap, append_assoc, arith, sym}
use Rattle.std.proofs.lemmas.List.Elements.{recursion_from_All}
use Rattle.pep440_compiled.proofs.Loops.{text_end, text_left, text_next}
use Rattle.pep440_compiled.proofs.key_parts.skip_text.Goals as goal

pub returns-then-first-eq0-clause-found : goal.returns-then-first-eq0-clause-found
returns-then-first-eq0-clause-found c text rest all e =
    let left = c.loop-first.invariant.leads text rest (recursion_from_All _ text all) e in
    (text_end c.in-Some.first.now c.loop-first.left.now c.in-Some.later.now rest left.0 left.1 c.in-Some.ensures.cases.0 c.if-first-eq0.true left.2).1

pub returns-then-first-eq0-clause-exact : goal.returns-then-first-eq0-clause-exact
returns-then-first-eq0-clause-exact c =
    let split = c.loop-first.invariant.split in
    (split.0, split.1 ∙ ap (λ l. split.0 ++ l) (c.in-Some.ensures.cases.0 ∙ ap (λ b. b ∷ c.in-Some.later.now) c.if-first-eq0.true))

pub returns-clause-found : goal.returns-clause-found
returns-clause-found c text rest all e =
    let left = c.loop-first.invariant.leads text rest (recursion_from_All _ text all) e in
    text_left c.loop-first.left.now rest left.0 c.in_default.ensures.cases left.2

pub loop-first-preserved : goal.loop-first-preserved
loop-first-preserved c = record {
  leads = λ text rest all e.
      let left = c.loop-first.invariant.leads text rest all e in
      let next = text_next c.in-Some.first.now c.loop-first.left.now c.in-Some.later.now rest left.0 left.1 c.in-Some.ensures.cases.0 c.if-first-eq0.false left.2 in
      (next.0, next.1, next.3);
  split =
      let split = c.loop-first.invariant.split in
      (split.0 ++ c.in-Some.first.now ∷ [], split.1 ∙ ap (λ l. split.0 ++ l) c.in-Some.ensures.cases.0 ∙ sym (append_assoc split.0 (c.in-Some.first.now ∷ []) c.in-Some.later.now));
  shorter = omega (arith, c.in-Some.ensures.cases.1, c.loop-first.invariant.shorter);
}
