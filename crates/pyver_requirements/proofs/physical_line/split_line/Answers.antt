use Rattle.std.proofs.Common.{arith}
use Rattle.std.proofs.lemmas.List.{take_rest}
use Rattle.pyver_requirements.proofs.Lines.{first_line, one_line}
use Rattle.pyver_requirements.proofs.physical_line.split_line.Goals as goal

pub returns-then-ending-gt0-clause-lines : goal.returns-then-ending-gt0-clause-lines
returns-then-ending-gt0-clause-lines c =
    rw take_rest
    (first_line c.args.text.now c.loop-at.at c.line_end-ending.result c.loop-at-test.true (rw take_rest at c.line_end-ending.ensures.count) c.if-ending-gt0.true c.loop-at.invariant)

pub returns-clause-lines : goal.returns-clause-lines
returns-clause-lines c = one_line c.args.text.now (λ k lt. c.loop-at.invariant k (omega (arith, lt, c.loop-at-test.false)))
