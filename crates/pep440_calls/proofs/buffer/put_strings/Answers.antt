use Rattle.std.proofs.Common.{arith}
use Rattle.pep440_calls.proofs.Placed.{no_ends_fit}
use Rattle.pep440_calls.proofs.buffer.put_strings.Goals as goal

pub returns-then-ends-strings : goal.returns-then-ends-strings
returns-then-ends-strings c = no_ends_fit c.args.strings.now c.args.out.now c.args.ends.now c.args.written.now c.in-Some.sum c.in-Some.ensures (omega arith)
