use Rattle.std.proofs.Common.{length}
use Rattle.pep440_compiled.proofs.ByteOrder.{Alike, AreBytes}
use Rattle.pep440_compiled.proofs.byte_order.cmp_bytes.Given as goal

-- what is left decides
abbrev pub invariant-loop-left : goal.invariant-loop-left
invariant-loop-left l = AreBytes l.left × AreBytes l.right × Alike l.fn.a l.fn.b l.left l.right

abbrev pub decreases-loop-left : goal.decreases-loop-left
decreases-loop-left l = length l.left
