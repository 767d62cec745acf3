use Rattle.std.proofs.Common.{◌≡◌, inl, of_z, refl, rules, subst, sym, to_z, w8}
use Rattle.pep440_calls.proofs.two_versions.write_order.Goals as goal
use Rattle.pep440_calls.specs.CallResults.{IsOrder, order_number}

pub returns-in-Ok-clause-found : goal.returns-in-Ok-clause-found
returns-in-Ok-clause-found c =
    let same : to_z w8 (of_z w8 c.order_number.result) ≡ order_number c.in-Ok.found = search rules in
    inl (c.in-Ok.found, refl, same, subst (IsOrder c.args.left.now c.args.right.now) (sym same) c.in-Ok.ensures.found)
