use Rattle.std.proofs.Common.{take}
use Rattle.std.specs.List.{flat_map}
use Rattle.pep440_calls.specs.CallResults.{member_strings}
use Rattle.pep440_calls.specs.Statuses.{Joins}
use Rattle.pep440_calls.proofs.one_list.join_members.Given as goal

abbrev pub invariant-loop-member : goal.invariant-loop-member
invariant-loop-member l = Joins (flat_map member_strings (take l.member-index l.members)) l.found.bytes.items l.found.ends.items
