use Rattle.std.proofs.Common.{◌≡◌, ◌++◌, replicate}
use Rattle.pep440_compiled.proofs.stack_form.push_ones.Given as goal

abbrev pub invariant-loop : goal.invariant-loop
invariant-loop l = l.form.items ≡ l.fn.form.items ++ replicate l.counter 1
