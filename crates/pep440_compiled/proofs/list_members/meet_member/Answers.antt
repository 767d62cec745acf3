use Rattle.std.proofs.Common.{◌≡◌, ◌+◌, arith, false, subst, sym, true, ℕ}
use Rattle.std.specs.Cmp.{nat_cmp_is}
use Rattle.std.specs.Prelude.{IfSome, MatchOption}
use Rattle.std.specs.declared.cmp.Ordering.TheVariants as ordering
use Rattle.pep440_compiled.proofs.list_members.meet_member.Goals as goal
use Rattle.pep440_rs.specs.Matching.{matches}
use Rattle.pep440_rs.specs.OperatorLaws.{same_operator}
use Rattle.pep440_rs.specs.Operators.{operator_rank}
use Rattle.pep440_rs.specs.declared.specifier.operator.Operator.{Operator}
use Rattle.pep440_rs.specs.declared.specifier.operator.Operator.TheVariants.{EqualStar, NotEqualStar}

-- the operator of a first byte
of_byte : (first : ℕ) (o q : Operator) → first ≡ 16 + operator_rank o → first ≡ 16 + operator_rank q → q ≡ o
of_byte first o q e f = same_operator q o (sym (nat_cmp_is (operator_rank q) (operator_rank o) ordering.Equal (omega (arith, e, f))))

pub returns-then-first-eq-EQUAL_STAR-clause-found : goal.returns-then-first-eq-EQUAL_STAR-clause-found
returns-then-first-eq-EQUAL_STAR-clause-found c s v rest first p k o e =
    subst (λ operator. IfSome c.match_star.result (λ r. MatchOption r (matches operator s.version v ≡ false) (λ r. (matches operator s.version v ≡ true) × (r.now ≡ rest))))
    (of_byte c.args.first s.operator EqualStar first c.if-first-eq-EQUAL_STAR.true) (c.match_star.ensures.found s.version v rest p k o e)

pub returns-then-first-eq-NOT_EQUAL_STAR-clause-found : goal.returns-then-first-eq-NOT_EQUAL_STAR-clause-found
returns-then-first-eq-NOT_EQUAL_STAR-clause-found c s v rest first p k o e =
    subst (λ operator. IfSome c.match_star-then-first-eq-NOT_EQUAL_STAR.result (λ r. MatchOption r (matches operator s.version v ≡ false) (λ r. (matches operator s.version v ≡ true) × (r.now ≡ rest))))
    (of_byte c.args.first s.operator NotEqualStar first c.if-first-eq-NOT_EQUAL_STAR.true) (c.match_star-then-first-eq-NOT_EQUAL_STAR.ensures.found s.version v rest p k o e)
