use Rattle.std.proofs.Common.{◌≡◌, Some, rules}
use Rattle.std.proofs.lemmas.Result.{IfOk-weaker}
use Rattle.pep440_rs.specs.Agreement.{Agrees, IsReleaseComparable}
use Rattle.pep440_rs.specs.Bounds.{release_range_of}
use Rattle.pep440_rs.specs.RaisedNumbers.{raised_release_number}
use Rattle.pep440_rs.proofs.Raising.AtMax.{tells_max}
use Rattle.pep440_rs.proofs.Raising.Refused.{release_refused_at_max}
use Rattle.pep440_rs.proofs.Agreement.Releases.{release_agrees}
use Rattle.pep440_rs.proofs.range.release_only.release_specifier_to_range.Goals as goal

pub returns-clause-agrees : goal.returns-clause-agrees
returns-clause-agrees c =
    IfOk-weaker c.convert_release.result (λ r. release_range_of c.args.specifier.operator c.args.specifier.version ≡ Some r) (Agrees IsReleaseComparable c.args.specifier)
    (λ r is. release_agrees c.args.specifier r is) (search rules)

pub returns-clause-at_max : goal.returns-clause-at_max
returns-clause-at_max c =
    tells_max release_range_of raised_release_number release_refused_at_max c.args.specifier c.operator.ensures.valid (_, _) (λ i. (c.operator.ensures.value i, c.version.ensures.value i)) c.convert_release.result c.convert_release.ensures.range
    c.convert_release.ensures.refused
