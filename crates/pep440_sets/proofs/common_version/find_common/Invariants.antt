use Rattle.std.proofs.Common.{◌≡◌, drop}
use Rattle.std.specs.List.{find}
use Rattle.pep440_rs.specs.Specifiers.{Spec}
use Rattle.pep440_sets.specs.Sets.{is_exact}
use Rattle.pep440_sets.proofs.common_version.find_common.Given as goal

abbrev pub invariant-loop-member : goal.invariant-loop-member
invariant-loop-member l = find (λ (m : Spec). is_exact m.operator) l.members ≡ find (λ (m : Spec). is_exact m.operator) (drop l.member-index l.members)
