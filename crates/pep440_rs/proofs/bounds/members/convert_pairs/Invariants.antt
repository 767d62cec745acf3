use Rattle.std.proofs.Common.{◌≡◌, ◌++◌, length}
use Rattle.pep440_rs.specs.Members.{gaps_members, last_end}
use Rattle.pep440_rs.proofs.bounds.members.convert_pairs.Given as goal

abbrev pub invariant-loop-next : goal.invariant-loop-next
invariant-loop-next l = record {
  made : l.members.items ++ gaps_members l.end l.rest ≡ gaps_members l.initial.end l.initial.rest;
  last : last_end l.end l.rest ≡ last_end l.initial.end l.initial.rest;
}

abbrev pub decreases-loop-next : goal.decreases-loop-next
decreases-loop-next l = length l.rest
