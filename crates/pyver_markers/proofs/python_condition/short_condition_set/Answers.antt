use Rattle.std.proofs.Common.{subst}
use Rattle.std.specs.Prelude.{IfSome}
use Rattle.pyver_markers.proofs.ShortVersions.{holds_short_met, holds_short_unmet}
use Rattle.pyver_markers.specs.Extents.{condition_of}
use Rattle.pyver_markers.specs.Conditions.{ComparesAs, HoldsShortMatchesOf, IsOperand}
use Rattle.pyver_markers.proofs.python_condition.short_condition_set.Goals as goal

pub returns-then-condition : goal.returns-then-condition
returns-then-condition c =
    holds_short_met c.args.name.now c.in-Some-Right.right.now (condition_of c.args.condition.now) c.in-Some.specifier c.in-Some-2.set c.requires
    (subst (IsOperand c.args.name.now (condition_of c.args.condition.now)) c.in-Some-Right.field-0-is c.in-Some-Right.ensures.found)
    (subst (λ o. IfSome o (ComparesAs c.args.condition.now.operator c.in-Some-Right.right.now)) c.in-Some.is c.in_ok-specifier.ensures.compares)
    (subst (λ o. IfSome o (HoldsShortMatchesOf c.in-Some.specifier)) c.in-Some-2.is c.in_ok-set.ensures)
    c.if-condition.true

pub returns : goal.returns
returns c =
    holds_short_unmet c.args.name.now c.in-Some-Right.right.now (condition_of c.args.condition.now) c.in-Some.specifier c.in-Some-2.set c.in_ok-complement.field-0 c.requires
    (subst (IsOperand c.args.name.now (condition_of c.args.condition.now)) c.in-Some-Right.field-0-is c.in-Some-Right.ensures.found)
    (subst (λ o. IfSome o (ComparesAs c.args.condition.now.operator c.in-Some-Right.right.now)) c.in-Some.is c.in_ok-specifier.ensures.compares)
    (subst (λ o. IfSome o (HoldsShortMatchesOf c.in-Some.specifier)) c.in-Some-2.is c.in_ok-set.ensures)
    c.if-condition.false c.in_ok-complement.ensures
