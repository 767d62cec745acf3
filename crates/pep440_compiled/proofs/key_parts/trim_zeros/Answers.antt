use Rattle.std.proofs.Common.{arith, suc}
use Rattle.pep440_compiled.proofs.Loops.{ends_before, ends_there}
use Rattle.pep440_compiled.proofs.Rewritten.{one_before}
use Rattle.pep440_compiled.proofs.key_parts.trim_zeros.Goals as goal

pub returns-then-last-ne1-clause-found : goal.returns-then-last-ne1-clause-found
returns-then-last-ne1-clause-found c key numbers e =
    let left = c.loop-last.invariant.ends key numbers e in
    ends_there c.in-Some.last.now c.loop-last.left.now c.in-Some.kept.now key left.0 c.in-Some.ensures.cases.0 c.if-last-ne1.true left.1

pub loop-last-preserved : goal.loop-last-preserved
loop-last-preserved c = record {
  ends = λ key numbers e.
      let left = c.loop-last.invariant.ends key numbers e in
      ends_before c.in-Some.last.now c.loop-last.left.now c.in-Some.kept.now key left.0 c.in-Some.ensures.cases.0 c.if-last-ne1.false left.1;
  split =
      let split = c.loop-last.invariant.split in
      (suc split.0, one_before c.args.bytes.now c.loop-last.left.now c.in-Some.kept.now c.in-Some.last.now split.0 split.1 c.in-Some.ensures.cases.0 c.if-last-ne1.false);
  shorter = omega (arith, c.in-Some.ensures.cases.1, c.loop-last.invariant.shorter);
}
