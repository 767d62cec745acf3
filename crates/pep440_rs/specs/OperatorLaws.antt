-- The order of operators is total, and operators that tie are the same one.
use Rattle.std.proofs.Common.{◌≡◌, ◌==◌, ℕ, refl, sym, ap, ◌∙◌, true, cond}
use Rattle.std.specs.Cmp.{Equal-is, IsEquivalence, IsPartialOrder, IsTotalOrder, eq_by_cmp_equiv, nat_cmp_total, on_total, po}
use Rattle.std.specs.FinMap.{nat_cmp-IsAntisymmetric}
use Rattle.std.specs.Ordering.{as_partial_cmp, eq_by_cmp}
use Rattle.pep440_rs.specs.declared.specifier.operator.Operator.{Operator}
use Rattle.pep440_rs.specs.declared.specifier.operator.Operator.TheVariants.{Equal, EqualStar, ExactEqual, NotEqual, NotEqualStar, TildeEqual, LessThan, LessThanEqual, GreaterThan, GreaterThanEqual}
use Rattle.std.specs.declared.cmp.Ordering.TheVariants as ordering
use Rattle.pep440_rs.specs.Operators.{feed_operator, operator_cmp, operator_rank}

pub operator_total : IsTotalOrder operator_cmp
operator_total = on_total operator_rank nat_cmp_total

pub operator_equiv : IsEquivalence (eq_by_cmp operator_cmp)
operator_equiv = eq_by_cmp_equiv operator_total

pub operator_po : IsPartialOrder (eq_by_cmp operator_cmp) (as_partial_cmp operator_cmp)
operator_po = po operator_total (λ x y. refl)

operator_at : ℕ → Operator
operator_at n = cond (n == 0) Equal (cond (n == 1) EqualStar (cond (n == 2) ExactEqual (cond (n == 3) NotEqual (cond (n == 4) NotEqualStar
    (cond (n == 5) TildeEqual (cond (n == 6) LessThan (cond (n == 7) LessThanEqual (cond (n == 8) GreaterThan GreaterThanEqual))))))))

operator_back : (o : Operator) → operator_at (operator_rank o) ≡ o
unfolding operator_at
operator_back Equal = refl
operator_back EqualStar = refl
operator_back ExactEqual = refl
operator_back NotEqual = refl
operator_back NotEqualStar = refl
operator_back TildeEqual = refl
operator_back LessThan = refl
operator_back LessThanEqual = refl
operator_back GreaterThan = refl
operator_back GreaterThanEqual = refl

pub same_operator : (x y : Operator) → operator_cmp x y ≡ ordering.Equal → x ≡ y
same_operator x y e = sym (operator_back x) ∙ ap operator_at (nat_cmp-IsAntisymmetric _ _ e) ∙ operator_back y

pub operators_feed_alike : (x y : Operator) → eq_by_cmp operator_cmp x y ≡ true → feed_operator x ≡ feed_operator y
operators_feed_alike x y e = ap feed_operator (same_operator x y ((Equal-is (operator_cmp x y)).0 e))
