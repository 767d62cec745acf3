use Rattle.std.proofs.Common.{arith}
use Rattle.pep440_compiled.proofs.Loops.{behind, end_of_numbers, enough, every, next_number, not_nil, whole_number}
use Rattle.pep440_compiled.proofs.key_parts.skip_numbers.Goals as goal
use Rattle.pep440_keys.specs.SortKeys.{number_bytes}

pub returns-then-first-eq0-clause-found : goal.returns-then-first-eq0-clause-found
returns-then-first-eq0-clause-found c numbers rest e =
    let left = c.loop-first.invariant.leads numbers rest (every numbers) e in
    (end_of_numbers c.in-Some.first.now c.loop-first.left.now c.in-Some.later.now rest left.0 c.in-Some.ensures.cases.0 c.if-first-eq0.true left.2).1

pub returns-in_err-rest-clause-found : goal.returns-in_err-rest-clause-found
returns-in_err-rest-clause-found c numbers rest e =
    let left = c.loop-first.invariant.leads numbers rest (every numbers) e in
    let next = next_number (λ n. Unit {0}) c.in-Some.first.now c.loop-first.left.now c.in-Some.later.now rest left.0 left.1 c.in-Some.ensures.cases.0 c.if-first-eq0.false left.2 in
    absurd (enough c.from.result c.loop-first.left.now (number_bytes 1 next.number) _ (omega (arith, next.count)) (whole_number c.in-Some.first.now c.loop-first.left.now c.in-Some.later.now rest left.0 next c.in-Some.ensures.cases.0) c.in_err-rest.ensures.cases)

pub loop-first-preserved : goal.loop-first-preserved
loop-first-preserved c = record {
  leads = λ numbers rest all e.
      let left = c.loop-first.invariant.leads numbers rest all e in
      let next = next_number (λ n. Unit {0}) c.in-Some.first.now c.loop-first.left.now c.in-Some.later.now rest left.0 left.1 c.in-Some.ensures.cases.0 c.if-first-eq0.false left.2 in
      (next.more, next.all, behind c.from.result c.loop-first.left.now c.in_ok-rest.field-0-0.now c.in_ok-rest.rest.now (number_bytes 1 next.number) _ (omega (arith, next.count)) (whole_number c.in-Some.first.now c.loop-first.left.now c.in-Some.later.now rest left.0 next c.in-Some.ensures.cases.0) c.in_ok-rest.ensures.cases.2);
  shorter = omega (arith, c.in-Some.ensures.cases.1, c.in_ok-rest.ensures.cases.4, c.loop-first.invariant.shorter);
}

pub returns-clause-found : goal.returns-clause-found
returns-clause-found c numbers rest e =
    let left = c.loop-first.invariant.leads numbers rest (every numbers) e in
    not_nil (number_bytes 1) c.loop-first.left.now rest left.0 c.in_default.ensures.cases left.2
