use Rattle.std.proofs.Common.{◌∙◌}
use Rattle.pep440_version.proofs.Words.Order.{lent_order_without_local}
use Rattle.pep440_version.proofs.order.cmp_without_local.Goals as goal

pub returns-in-Some-Some : goal.returns-in-Some-Some
returns-in-Some-Some c = c.cmp.ensures ∙ lent_order_without_local c.args.a.now c.args.b.now c.in-Some-Some.first.now c.in-Some-Some.second.now c.in-Some-Some.ensures c.in-Some-Some.ensures'
