use Rattle.std.proofs.Common.{◌≡◌, List, length}
use Rattle.std.specs.List.{AllByRecursion, flat_map}
use Rattle.pep440_compiled.proofs.list_members.contains_final.Given as goal
use Rattle.pep440_compiled.specs.Lists.{DenotesMembers, IsParsedMember, member_bytes}
use Rattle.pep440_compiled.specs.Version.{DenotesVersion}
use Rattle.pep440_rs.specs.Matching.{list_matches}
use Rattle.pep440_rs.specs.Specifiers.{Spec}
use Rattle.pep440_version.specs.Record.{Record}

-- what is left of the list decides
abbrev pub invariant-loop-first : goal.invariant-loop-first
invariant-loop-first l = (list : List Spec) (v : Record) → DenotesMembers l.fn.list list → DenotesVersion l.fn.version v
    → (more : List Spec) × AllByRecursion IsParsedMember more × (l.left ≡ flat_map member_bytes more) × (list_matches list v ≡ list_matches more v)

abbrev pub decreases-loop-first : goal.decreases-loop-first
decreases-loop-first l = length l.left
