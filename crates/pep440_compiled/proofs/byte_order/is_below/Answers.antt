use Rattle.std.proofs.Common.{◌∙◌, ap, arith}
use Rattle.std.specs.Ordering.{is_lt}
use Rattle.pep440_compiled.proofs.ByteOrder.{other_words}
use Rattle.pep440_compiled.proofs.byte_order.is_below.Goals as goal

pub returns-then-x-y : goal.returns-then-x-y
returns-then-x-y c =
    c.is_lt.ensures
    ∙ ap is_lt (c.cmp.ensures
    ∙ other_words _ _ _ _ (omega (arith, c.if-a-ge8.true)) (omega (arith, c.if-b-ge8.true)) (λ k. omega (arith, c.type_inv.a k)) (λ k. omega (arith, c.type_inv.b k)) c.read_word-x.ensures c.read_word-y.ensures c.if-x-y.true)
