use Rattle.std.proofs.Common.{◌≡◌, ◌++◌, replicate}
use Rattle.pep440_compiled.proofs.decode.push_zeros.Given as goal

abbrev pub invariant-loop : goal.invariant-loop
invariant-loop l = l.numbers.items ≡ l.fn.numbers.items ++ replicate l.counter 0
