use Rattle.std.proofs.Common.{◌∙◌, ap, arith, length, sym}
use Rattle.std.proofs.lemmas.Bool.{eqb-false, eqb-true}
use Rattle.pep440_compiled.proofs.Comparing.{first_number, last_seen, none_left, none_seen, number_seen, zero_seen}
use Rattle.pep440_compiled.proofs.Loops.{behind, enough}
use Rattle.pep440_compiled.proofs.Fronts.{numbers_code, trim_fits, zeros_none}
use Rattle.pep440_compiled.proofs.matching.without_last.Goals as goal
use Rattle.pep440_keys.specs.SortKeys.{needed_bytes}
use Rattle.pep440_version.specs.Key.Trim.{trim}
use Rattle.pep440_compiled.specs.KeyParts.{ending_zeros, base_bytes}
use Rattle.pep440_rs.specs.Matching.{without_last}

pub returns-in_err-numbers : goal.returns-in_err-numbers
returns-in_err-numbers c epoch numbers some all none e = absurd (c.in_err-numbers.ensures.found 0 epoch (numbers_code (trim numbers)) (omega arith) e)

pub loop-first-init : goal.loop-first-init
loop-first-init c = record {
  counts = none_seen c.args.base.now c.in_ok-numbers.numbers.now (λ epoch numbers e. (c.in_ok-numbers.ensures.found 0 epoch (numbers_code numbers) (omega arith) e).1);
  few = omega (arith, c.in_ok-numbers.ensures.shorter);
  inside = omega arith;
}

pub returns-in_err-rest : goal.returns-in_err-rest
returns-in_err-rest c epoch numbers some all none e =
    let trimmed = zeros_none numbers none in
    let seen = c.loop-first.invariant.counts epoch (trim numbers) (omega (arith, some, ap length trimmed)) (trim_fits numbers all) e in
    let next = first_number c.in-Some.first.now c.loop-first.left.now c.in-Some.later.now seen.more seen.fit c.in-Some.ensures.cases.0 seen.bytes in
    absurd (enough c.from.result c.in-Some.later.now (needed_bytes next.number) (numbers_code next.more) (omega (arith, next.count)) next.bytes c.in_err-rest.ensures.cases)

pub returns-then-is_empty : goal.returns-then-is_empty
returns-then-is_empty c epoch numbers some all none e =
    let trimmed = zeros_none numbers none in
    let seen = c.loop-first.invariant.counts epoch (trim numbers) (omega (arith, some, ap length trimmed)) (trim_fits numbers all) e in
    let next = first_number c.in-Some.first.now c.loop-first.left.now c.in-Some.later.now seen.more seen.fit c.in-Some.ensures.cases.0 seen.bytes in
    let rest = behind c.from.result c.in-Some.later.now c.in_ok-rest.field-0-0.now c.in_ok-rest.rest.now (needed_bytes next.number) (numbers_code next.more) (omega (arith, next.count)) next.bytes c.in_ok-rest.ensures.cases.2 in
    let last = last_seen epoch c.in-Some.first.now c.args.base.now (trim numbers) c.loop-first.left.now c.in-Some.later.now c.in_ok-rest.rest.now c.loop-first.length c.loop-first.zeros seen next e rest (eqb-true (length c.in_ok-rest.rest.now) 0 (sym c.is_empty.ensures ∙ c.if-is_empty.true)) in
    (last.0 ∙ ap (λ l. base_bytes epoch (without_last l)) trimmed, last.1 ∙ ap (λ l. ending_zeros (without_last l)) trimmed)

pub loop-first-preserved-then-first-eq1 : goal.loop-first-preserved-then-first-eq1
loop-first-preserved-then-first-eq1 c = record {
  counts = λ epoch numbers some fit e.
      let seen = c.loop-first.invariant.counts epoch numbers some fit e in
      let next = first_number c.in-Some.first.now c.loop-first.left.now c.in-Some.later.now seen.more seen.fit c.in-Some.ensures.cases.0 seen.bytes in
      let rest = behind c.from.result c.in-Some.later.now c.in_ok-rest.field-0-0.now c.in_ok-rest.rest.now (needed_bytes next.number) (numbers_code next.more) (omega (arith, next.count)) next.bytes c.in_ok-rest.ensures.cases.2 in
      zero_seen epoch c.in-Some.first.now numbers c.loop-first.left.now c.in-Some.later.now c.in_ok-rest.rest.now c.loop-first.length c.loop-first.zeros seen next c.if-first-eq1.true rest (eqb-false (length c.in_ok-rest.rest.now) 0 (sym c.is_empty.ensures ∙ c.if-is_empty.false));
  few = omega (arith, c.in-Some.ensures.cases.1, c.in_ok-rest.ensures.cases.4, c.loop-first.invariant.few);
  inside = c.loop-first.invariant.inside;
}

pub loop-first-preserved : goal.loop-first-preserved
loop-first-preserved c = record {
  counts = λ epoch numbers some fit e.
      let seen = c.loop-first.invariant.counts epoch numbers some fit e in
      let next = first_number c.in-Some.first.now c.loop-first.left.now c.in-Some.later.now seen.more seen.fit c.in-Some.ensures.cases.0 seen.bytes in
      let rest = behind c.from.result c.in-Some.later.now c.in_ok-rest.field-0-0.now c.in_ok-rest.rest.now (needed_bytes next.number) (numbers_code next.more) (omega (arith, next.count)) next.bytes c.in_ok-rest.ensures.cases.2 in
      number_seen epoch c.in-Some.first.now c.args.base.now numbers c.loop-first.left.now c.in-Some.later.now c.in_ok-rest.rest.now c.loop-first.length c.loop-first.zeros seen next e c.if-first-eq1.false rest (eqb-false (length c.in_ok-rest.rest.now) 0 (sym c.is_empty.ensures ∙ c.if-is_empty.false));
  few = omega (arith, c.in-Some.ensures.cases.1, c.in_ok-rest.ensures.cases.4, c.loop-first.invariant.few);
  inside = omega arith;
}

pub returns : goal.returns
returns c epoch numbers some all none e =
    let trimmed = zeros_none numbers none in
    let seen = c.loop-first.invariant.counts epoch (trim numbers) (omega (arith, some, ap length trimmed)) (trim_fits numbers all) e in
    absurd (none_left seen.more c.loop-first.left.now seen.bytes c.in_default.ensures.cases seen.some)
