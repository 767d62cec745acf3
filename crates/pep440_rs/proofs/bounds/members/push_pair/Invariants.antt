use Rattle.std.proofs.Common.{◌≡◌, ◌++◌}
use Rattle.pep440_rs.proofs.bounds.members.push_pair.Given as goal

abbrev pub invariant-loop-member : goal.invariant-loop-member
invariant-loop-member l = l.members.items ++ l.member-iterator ≡ l.initial.members.items ++ l.initial.member-iterator
