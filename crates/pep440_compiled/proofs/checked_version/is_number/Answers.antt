use Rattle.std.proofs.Common.{◌≡◌, ap, arith, length, lit<}
use Rattle.std.proofs.lemmas.Bool.{le-leb, leb-true}
use Rattle.pep440_compiled.proofs.Rewritten.{begins_otherwise, needed_first, some_number, zero_number}
use Rattle.pep440_compiled.proofs.checked_version.is_number.Goals as goal
use Rattle.pep440_keys.proofs.Bytes.{needed_le}

pub returns-in_default-clause-exact : goal.returns-in_default-clause-exact
returns-in_default-clause-exact c e = (0, lit< tt, zero_number c.args.bytes.now c.in_default.ensures.cases)

pub returns-then-first-gt0-clause-found : goal.returns-then-first-gt0-clause-found
returns-then-first-gt0-clause-found c n e = le-leb (length c.args.bytes.now) 8 (omega (arith, needed_le n, ap length e))

pub returns-then-first-gt0-clause-exact : goal.returns-then-first-gt0-clause-exact
returns-then-first-gt0-clause-exact c few =
    let other = begins_otherwise c.args.bytes.now c.in-Some.field-0-1.now c.in-Some.first.now c.in-Some.ensures.cases.0 (λ z. omega (arith, z, c.if-first-gt0.true)) in
    some_number c.args.bytes.now (λ i. omega (arith, c.type_inv.bytes i)) other (leb-true (length c.args.bytes.now) 8 few)

pub returns-else-first-gt0-clause-found : goal.returns-else-first-gt0-clause-found
returns-else-first-gt0-clause-found c n e =
    let zero : c.in-Some.first.now ≡ 0 = omega (arith, c.if-first-gt0.false) in
    absurd (needed_first n c.in-Some.first.now c.args.bytes.now c.in-Some.field-0-1.now c.in-Some.ensures.cases.0 zero e)
