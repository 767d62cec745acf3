use Rattle.std.proofs.Common.{◌-◌, arith}
use Rattle.std.proofs.lemmas.List.Elements.{recursion_from_All}
use Rattle.pep440_compiled.proofs.Checking.{all_read, one_read}
use Rattle.pep440_compiled.proofs.Loops.{end_of_numbers, next_number, not_nil}
use Rattle.pep440_compiled.proofs.Rewritten.{coded_again, none_coded, one_coded}
use Rattle.pep440_compiled.proofs.decode.read_numbers.Goals as goal
use Rattle.pep440_keys.specs.SortKeys.{number_bytes}
use Rattle.pep440_version.specs.Record.{Fits}

pub returns-then-first-eq0-clause-found : goal.returns-then-first-eq0-clause-found
returns-then-first-eq0-clause-found c numbers rest all e =
    let left = c.loop-first.invariant.reads numbers rest (recursion_from_All Fits numbers all) e in
    let end = end_of_numbers c.in-Some.first.now c.loop-first.left.now c.in-Some.later.now rest left.0 c.in-Some.ensures.cases.0 c.if-first-eq0.true left.3 in
    (all_read numbers c.loop-first.numbers.items left.0 left.2 end.0, end.1)

pub returns-then-first-eq0-clause-exact : goal.returns-then-first-eq0-clause-exact
returns-then-first-eq0-clause-exact c =
    none_coded (number_bytes 1) c.args.bytes.now c.loop-first.left.now c.in-Some.later.now c.loop-first.numbers.items c.in-Some.first.now c.loop-first.invariant.coded c.in-Some.ensures.cases.0 c.if-first-eq0.true

pub returns-in_default-read_number-clause-found : goal.returns-in_default-read_number-clause-found
returns-in_default-read_number-clause-found c numbers rest all e =
    let left = c.loop-first.invariant.reads numbers rest (recursion_from_All Fits numbers all) e in
    let next = next_number Fits c.in-Some.first.now c.loop-first.left.now c.in-Some.later.now rest left.0 left.1 c.in-Some.ensures.cases.0 c.if-first-eq0.false left.3 in
    c.in_default-read_number.ensures.found next.number _ next.holds (omega (arith, next.count)) next.bytes

pub loop-first-preserved : goal.loop-first-preserved
loop-first-preserved c = record {
  reads = λ numbers rest all e.
      let left = c.loop-first.invariant.reads numbers rest all e in
      let next = next_number Fits c.in-Some.first.now c.loop-first.left.now c.in-Some.later.now rest left.0 left.1 c.in-Some.ensures.cases.0 c.if-first-eq0.false left.3 in
      let read = c.in-Some-read_number.ensures.found next.number _ next.holds (omega (arith, next.count)) next.bytes in
      (next.more, next.all, one_read numbers c.loop-first.numbers.items left.0 next.more c.push.new.self.items next.number c.in-Some-read_number.number left.2 next.split read.0 c.in_ok-push.ensures.ok, read.1);
  coded =
      let first = c.in-Some.first.now in
      let code = coded_again 1 c.loop-first.left.now c.in-Some.later.now c.in-Some-read_number.rest.now first (first - 1) c.in-Some-read_number.number c.in-Some.ensures.cases.0 (omega (arith, c.if-first-eq0.false)) c.in-Some-read_number.ensures.exact.0 c.in-Some-read_number.ensures.exact.1 in
      one_coded (number_bytes 1) c.args.bytes.now c.loop-first.left.now c.in-Some-read_number.rest.now c.loop-first.numbers.items c.push.new.self.items c.in-Some-read_number.number c.loop-first.invariant.coded code c.in_ok-push.ensures.ok;
}

pub returns-clause-found : goal.returns-clause-found
returns-clause-found c numbers rest all e =
    let left = c.loop-first.invariant.reads numbers rest (recursion_from_All Fits numbers all) e in
    not_nil (number_bytes 1) c.loop-first.left.now rest left.0 c.in_default.ensures.cases left.3
