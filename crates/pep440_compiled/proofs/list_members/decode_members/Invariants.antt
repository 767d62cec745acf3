use Rattle.std.proofs.Common.{◌≡◌, ◌++◌, List, length}
use Rattle.std.specs.List.{All, AllByRecursion, flat_map}
use Rattle.pep440_compiled.proofs.list_members.decode_members.Given as goal
use Rattle.pep440_compiled.specs.Lists.{IsParsedMember, member_bytes}
use Rattle.pep440_rs.specs.Specifiers.{Spec}

abbrev pub invariant-loop-left : goal.invariant-loop-left
invariant-loop-left l = (list : List Spec) → All IsParsedMember list → l.fn.bytes ≡ flat_map member_bytes list
    → (more : List Spec) × AllByRecursion IsParsedMember more × (l.left ≡ flat_map member_bytes more) × (list ≡ l.members.items ++ more)

abbrev pub decreases-loop-left : goal.decreases-loop-left
decreases-loop-left l = length l.left
