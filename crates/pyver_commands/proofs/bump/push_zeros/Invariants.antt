use Rattle.std.proofs.Common.{◌≡◌, ◌++◌, map, take}
use Rattle.pyver_commands.proofs.bump.push_zeros.Given as goal

abbrev pub invariant-loop-number : goal.invariant-loop-number
invariant-loop-number l = l.numbers.items ≡ l.initial.numbers.items ++ map (λ _. 0) (take l._number-index l.replaced)
