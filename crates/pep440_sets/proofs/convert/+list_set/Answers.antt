use Rattle.std.proofs.Common.{◌≡◌, IfOk, arith, refl, subst}
use Rattle.pep440_rs.specs.Bounds.{Segments}
use Rattle.pep440_sets.proofs.Lists.{one_member}
use Rattle.pep440_sets.proofs.convert.+list_set.Goals as goal

pub returns-in-Some : goal.returns-in-Some
returns-in-Some t c =
    subst (λ (l : Segments). IfOk c.specifier_set.result (λ r. r ≡ l))
    (one_member c.args.members.now c.in-Some.field-0-1.now c.in-Some.member.now _ c.in-Some.ensures.cases.0 (omega (arith, c.if-members-gt1.false)) refl) c.specifier_set.ensures
