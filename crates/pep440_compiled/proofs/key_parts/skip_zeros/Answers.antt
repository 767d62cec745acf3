use Rattle.std.proofs.Common.{arith}
use Rattle.pep440_compiled.proofs.Loops.{zeros_end, zeros_next}
use Rattle.pep440_compiled.proofs.key_parts.skip_zeros.Goals as goal

pub returns-then-first-ne1-clause-found : goal.returns-then-first-ne1-clause-found
returns-then-first-ne1-clause-found c numbers rest o e =
    let left = c.loop-first.invariant.leads numbers rest o e in
    zeros_end c.in-Some.first.now c.loop-first.left.now c.in-Some.later.now rest left.0 c.in-Some.ensures.cases.0 c.if-first-ne1.true left.1

pub loop-first-preserved : goal.loop-first-preserved
loop-first-preserved c = record {
  leads = λ numbers rest o e.
      let left = c.loop-first.invariant.leads numbers rest o e in
      zeros_next c.in-Some.first.now c.loop-first.left.now c.in-Some.later.now rest left.0 o c.in-Some.ensures.cases.0 c.if-first-ne1.false left.1;
  shorter = omega (arith, c.in-Some.ensures.cases.1, c.loop-first.invariant.shorter);
}
