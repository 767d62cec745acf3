use Rattle.std.proofs.Common.{◌∙◌, ◌<◌, ap, arith, length, rules, sym}
use Rattle.std.proofs.lemmas.List.{length-append}
use Rattle.pep440_compiled.proofs.ByteOrder.{alike_first, alike_on, last_words, left_decides, none_left, other_words, rest_bytes}
use Rattle.pep440_compiled.proofs.byte_order.cmp_bytes.Goals.{else-loop-left-test, then-loop-left-test+else-right-ge8}
use Rattle.pep440_compiled.proofs.byte_order.cmp_bytes.Goals as goal

pub loop-left-init : goal.loop-left-init
loop-left-init c = (λ k. omega (arith, c.type_inv.a k), λ k. omega (arith, c.type_inv.b k), alike_first c.args.a.now c.args.b.now)

pub returns-then-x-y : goal.returns-then-x-y
returns-then-x-y c =
    let left = c.loop-left.invariant in
    c.cmp.ensures
    ∙ other_words _ _ _ _ (omega (arith, c.loop-left-test.true)) (omega (arith, c.if-right-ge8.true)) left.0 left.1 c.read_word-x.ensures c.read_word-y.ensures c.if-x-y.true
    ∙ sym (left_decides _ _ _ _ left.2)

pub loop-left-preserved : goal.loop-left-preserved
loop-left-preserved c =
    let left = c.loop-left.invariant in (
      rest_bytes _ left.0,
      rest_bytes _ left.1,
      alike_on _ _ _ _ _ _ left.2 (omega (arith, c.loop-left-test.true)) (omega (arith, c.if-right-ge8.true)) left.0 left.1 c.read_word-x.ensures c.read_word-y.ensures c.if-x-y.false,
    )

pub returns-then-is_empty : goal.returns-then-is_empty
returns-then-is_empty c =
    let left = c.loop-left.invariant in
    c.cmp-then-is_empty.ensures ∙ none_left c.loop-left.left.now c.loop-left.right.now (search rules) ∙ sym (left_decides _ _ _ _ left.2)

pub returns-then-a-b : goal.returns-then-a-b
returns-then-a-b c =
    let left = c.loop-left.invariant in
    let alike = left.2 in
    let few : length c.loop-left.left.now < 8 = elim c.loop-left-test.branch [
      | then-loop-left-test+else-right-ge8 w ↦ omega (arith, w.if-right-ge8.false, c.if-a-b.true, ap length alike.first, ap length alike.second, length-append alike.front c.loop-left.left.now, length-append alike.front c.loop-left.right.now)
      | else-loop-left-test w ↦ omega (arith, w.loop-left-test.false)
    ] in
    c.cmp-then-a-b.ensures
    ∙ last_words _ _ _ _ _ _ alike (omega (arith, c.if-a-ge8.true)) (omega (arith, c.if-a-b.true)) few (λ k. omega (arith, c.type_inv.a k)) (λ k. omega (arith, c.type_inv.b k)) c.read_last_word.ensures c.read_last_word-then-a-b.ensures

pub returns : goal.returns
returns c = c.cmp-2.ensures ∙ sym (left_decides _ _ _ _ c.loop-left.invariant.2)
