use Rattle.std.proofs.Common.{◌≡◌, ◌-◌, ◌+◌, ◌∙◌, ℕ, suc, sym, arith, length, rules}
use Rattle.std.proofs.lemmas.Result.{err_from_is_err_and}
use Rattle.pep440_version.specs.Errors.{rejection_of}
use Rattle.pep440_version.specs.Reading.{parse_number, parse_release_from}
use Rattle.pep440_version.proofs.Reading.Digits.{fault_on}
use Rattle.pep440_version.proofs.Reading.AfterRelease.{more_on, more_err, more_shorter}
use Rattle.pep440_version.proofs.Reading.WithoutMemory.{read_too, still_more}
use Rattle.pep440_version.proofs.parse.number.parse_release_from.Goals as goal

pub returns-in_err-number-clause-reads : goal.returns-in_err-number-clause-reads
returns-in_err-number-clause-reads c =
    let p = err_from_is_err_and c.from_residual.result c.from_residual.ensures.1 in
    let left : ℕ = length c.args.text.now - (c.loop-round.round + 1) in
    let fuel : length c.args.text.now - c.loop-round.round ≡ suc left = omega arith in
    let go = sym c.has_next_number.ensures ∙ c.if-not-has_next_number.false in
    rw (p.1, p.2) (fault_on (rejection_of c.in_err-number.field-0.0) (parse_number c.skip_ascii.result.now) (parse_release_from c.args.first c.args.text.now)
    (λ f h. sym c.loop-round.invariant.2 ∙ rw fuel (more_err left c.loop-round.rest.now c.loop-round.numbers f go (rw (sym c.skip_ascii.ensures) h))) c.in_err-number.ensures.reads)

pub loop-round-preserved : goal.loop-round-preserved
loop-round-preserved c =
    let left : ℕ = length c.args.text.now - (c.loop-round.round + 1) in
    let fuel : length c.args.text.now - c.loop-round.round ≡ suc left = omega arith in
    let go = sym c.has_next_number.ensures ∙ c.if-not-has_next_number.false in
    let read = rw c.skip_ascii.ensures at c.in_ok-number.ensures.reads in
    let room = rw fuel at c.loop-round.invariant.1 in (
      search rules,
      more_shorter left c.loop-round.rest.now c.in_ok-number.after.now c.in_ok-number.number go read room,
      rw c.in_ok-push.ensures.value (sym (more_on left c.loop-round.rest.now c.in_ok-number.after.now c.loop-round.numbers c.in_ok-number.number go read) ∙ rw (sym fuel) c.loop-round.invariant.2),
    )

pub returns-in_err-number-clause-memory : goal.returns-in_err-number-clause-memory
returns-in_err-number-clause-memory c = λ x e few.
    let left : ℕ = length c.args.text.now - (c.loop-round.round + 1) in
    let fuel : length c.args.text.now - c.loop-round.round ≡ suc left = omega arith in
    let go = sym c.has_next_number.ensures ∙ c.if-not-has_next_number.false in
    let y = read_too (parse_number c.skip_ascii.result.now) (parse_release_from c.args.first c.args.text.now)
    (λ f h. sym c.loop-round.invariant.2 ∙ rw fuel (more_err left c.loop-round.rest.now c.loop-round.numbers f go (rw (sym c.skip_ascii.ensures) h))) x e in
    cc (c.in_err-number.ensures.memory y.0 y.1)

pub returns-in_err-push-clause-memory : goal.returns-in_err-push-clause-memory
returns-in_err-push-clause-memory c = λ x e few.
    let left : ℕ = length c.args.text.now - (c.loop-round.round + 1) in
    let fuel : length c.args.text.now - c.loop-round.round ≡ suc left = omega arith in
    let go = sym c.has_next_number.ensures ∙ c.if-not-has_next_number.false in
    let read = rw c.skip_ascii.ensures at c.in_ok-number.ensures.reads in
    let more = still_more left c.loop-round.rest.now c.in_ok-number.after.now c.loop-round.numbers c.in_ok-number.number x go read (rw (sym fuel) (c.loop-round.invariant.2 ∙ e)) in
    cc (c.in_err-push.ensures.memory (omega (arith, more, few)))
