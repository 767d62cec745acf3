use Rattle.std.proofs.Common.{◌≡◌, Some, rules}
use Rattle.std.proofs.lemmas.Result.{IfOk-weaker}
use Rattle.pep440_rs.specs.Agreement.{Agrees, HoldsAllMatches, HoldsOnlyMatches, IsCandidate}
use Rattle.pep440_rs.specs.Bounds.{range_of}
use Rattle.pep440_rs.specs.RaisedNumbers.{raised_number}
use Rattle.pep440_rs.proofs.Raising.AtMax.{tells_max}
use Rattle.pep440_rs.proofs.Raising.Refused.{refused_at_max}
use Rattle.pep440_rs.proofs.Agreement.Single.{agrees, holds_only_matches, holds_all_matches}
use Rattle.pep440_rs.proofs.range.whole_order.specifier_to_range.Goals as goal

pub returns-clause-agrees : goal.returns-clause-agrees
returns-clause-agrees c = λ operand.
    IfOk-weaker c.convert.result (λ r. range_of c.args.specifier.operator c.args.specifier.version ≡ Some r) (Agrees IsCandidate c.args.specifier)
    (λ r is. agrees c.args.specifier r is operand) (search rules)

pub returns-clause-within : goal.returns-clause-within
returns-clause-within c = λ operand.
    IfOk-weaker c.convert.result (λ r. range_of c.args.specifier.operator c.args.specifier.version ≡ Some r) (HoldsOnlyMatches c.args.specifier)
    (λ r is. holds_only_matches c.args.specifier r is operand) (search rules)

pub returns-clause-around : goal.returns-clause-around
returns-clause-around c = λ operand.
    IfOk-weaker c.convert.result (λ r. range_of c.args.specifier.operator c.args.specifier.version ≡ Some r) (HoldsAllMatches c.args.specifier)
    (λ r is. holds_all_matches c.args.specifier r is operand) (search rules)

pub returns-clause-at_max : goal.returns-clause-at_max
returns-clause-at_max c =
    tells_max range_of raised_number refused_at_max c.args.specifier c.into_parts-operator.ensures.valid _ c.into_parts-operator.ensures.value c.convert.result c.convert.ensures.range c.convert.ensures.refused
