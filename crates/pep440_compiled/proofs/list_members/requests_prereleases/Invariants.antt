use Rattle.std.proofs.Common.{◌≡◌, List, length}
use Rattle.std.specs.List.{AllByRecursion, flat_map}
use Rattle.pep440_compiled.proofs.list_members.requests_prereleases.Given as goal
use Rattle.pep440_compiled.specs.Lists.{DenotesMembers, IsParsedMember, member_bytes}
use Rattle.pep440_rs.specs.Prereleases.{requests_prereleases}
use Rattle.pep440_rs.specs.Specifiers.{Spec}

-- what is left of the list decides
abbrev pub invariant-loop-left : goal.invariant-loop-left
invariant-loop-left l = (list : List Spec) → DenotesMembers l.fn.bytes list
    → (more : List Spec) × AllByRecursion IsParsedMember more × (l.left ≡ flat_map member_bytes more) × (requests_prereleases list ≡ requests_prereleases more)

abbrev pub decreases-loop-left : goal.decreases-loop-left
decreases-loop-left l = length l.left
