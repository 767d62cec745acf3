use Rattle.std.proofs.Common.{◌≡◌, ◌==◌, false, take, All}
use Rattle.cli_io.proofs.newlines.split_line.Given as goal

abbrev pub invariant-loop-at : goal.invariant-loop-at
invariant-loop-at l = All (λ b. (b == 10) ≡ false) (take l.at l.input)
