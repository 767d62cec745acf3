use Rattle.std.proofs.Common.{◌≡◌, ◌==◌, false, take, All}
use Rattle.pep440_rs.proofs.list.read.split_piece.Given as goal

abbrev pub invariant-loop-at : goal.invariant-loop-at
invariant-loop-at l = All (λ b. (b == 44) ≡ false) (take l.at l.bytes)
