use Rattle.std.proofs.Common.{◌≡◌, List, length}
use Rattle.std.specs.List.{AllByRecursion, flat_map}
use Rattle.pep440_compiled.proofs.list_members.contains_any.Given as goal
use Rattle.pep440_compiled.specs.Lists.{DenotesMembers, IsParsedMember, member_bytes}
use Rattle.pep440_compiled.specs.Version.{DenotesVersion}
use Rattle.pep440_rs.specs.Matching.{list_matches}
use Rattle.pep440_rs.specs.Specifiers.{Spec}
use Rattle.pep440_version.specs.Record.{Record}

-- what is left of the list decides
abbrev pub invariant-loop-version : goal.invariant-loop-version
invariant-loop-version l = (list : List Spec) → DenotesMembers l.fn.list list
    → (more : List Spec) × AllByRecursion IsParsedMember more × (l.left ≡ flat_map member_bytes more) × ((v : Record) → DenotesVersion l.fn.version v → list_matches list v ≡ list_matches more v)

abbrev pub decreases-loop-version : goal.decreases-loop-version
decreases-loop-version l = length l.left
