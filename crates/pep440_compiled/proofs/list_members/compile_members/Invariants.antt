use Rattle.std.proofs.Common.{◌≡◌, ◌∷◌, take}
use Rattle.std.specs.List.{flat_map}
use Rattle.pep440_compiled.proofs.list_members.compile_members.Given as goal
use Rattle.pep440_compiled.specs.Lists.{member_bytes}

abbrev pub invariant-loop-member : goal.invariant-loop-member
invariant-loop-member l = l.bytes.items ≡ 5 ∷ flat_map member_bytes (take l.member-index l.members)
