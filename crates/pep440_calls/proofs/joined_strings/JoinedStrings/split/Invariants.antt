use Rattle.std.proofs.Common.{List, length, ℕ}
use Rattle.pep440_calls.proofs.Placed.{IsSplit}
use Rattle.pep440_calls.proofs.joined_strings.JoinedStrings.split.Given as goal
use Rattle.pep440_calls.specs.Statuses.{Joins}

abbrev pub invariant-loop-end : goal.invariant-loop-end
invariant-loop-end l = (strings : List (List ℕ)) → Joins strings l.self.bytes.items l.self.ends.items → IsSplit strings l.found.items l.left l.start l.ends

abbrev pub decreases-loop-end : goal.decreases-loop-end
decreases-loop-end l = length l.ends
