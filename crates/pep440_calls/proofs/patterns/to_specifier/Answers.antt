use Rattle.std.proofs.Common.{inr, sym}
use Rattle.pep440_rs.specs.Errors.{build_kind_of, build_rejection_of}
use Rattle.pep440_calls.proofs.patterns.to_specifier.Goals as goal

pub returns : goal.returns
returns c = inr (
  build_rejection_of (build_kind_of c.in-Err.field-0),
  (
    c.in_ok-operator.operator,
    c.in_ok-pattern.pattern.0,
    c.in_ok-pattern.pattern.1,
    c.in_ok-operator.ensures,
    c.in_ok-pattern.ensures,
    sym c.in-Err.ensures,
  ),
)
