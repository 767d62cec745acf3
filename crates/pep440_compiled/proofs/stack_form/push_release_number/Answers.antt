use Rattle.std.proofs.Common.{◌≡◌, ◌+◌, ◌≤◌, ap, arith, length}
use Rattle.std.proofs.lemmas.Bool.{false≢true}
use Rattle.std.proofs.lemmas.List.{length-append, length-replicate}
use Rattle.std.specs.Prelude.{ℕ, replicate}
use Rattle.pep440_compiled.proofs.WrittenForm.{number_pushed, zero_pushed}
use Rattle.pep440_compiled.proofs.stack_form.push_release_number.Goals as goal
use Rattle.pep440_keys.specs.SortKeys.{number_bytes}

pub returns-then-number-eq0-clause-appended : goal.returns-then-number-eq0-clause-appended
returns-then-number-eq0-clause-appended c = λ old numbers count is.
    zero_pushed c.args.form.now.items old numbers c.args.zeros c.in-Some.ending c.args.number (omega arith) (omega (arith, c.in-Some.ensures.1)) count is

pub returns-clause-appended : goal.returns-clause-appended
returns-clause-appended c = λ old numbers count is.
    let other : c.args.number ≡ 0 → ⊥ = λ none. omega arith in
    number_pushed c.args.form.now.items c.push_ones.new.form.items c.push_number.new.key.items old numbers c.args.zeros c.args.number other c.in_ok-push_ones.ensures.appended c.in_ok-push_number.ensures.appended count is

pub returns-in_default-clause-fits : goal.returns-in_default-clause-fits
returns-in_default-clause-fits c = λ fits. absurd (omega (arith, fits, c.in_default.ensures))

pub returns-in_err-push_ones-clause-fits : goal.returns-in_err-push_ones-clause-fits
returns-in_err-push_ones-clause-fits c = λ fits. absurd (false≢true (c.in_err-push_ones.ensures.fits (omega (arith, fits))))

pub returns-in_err-push_number-clause-fits : goal.returns-in_err-push_number-clause-fits
returns-in_err-push_number-clause-fits c = λ fits.
    let old = c.args.form.now.items in
    let written : length c.push_ones.new.form.items + (length (number_bytes 1 c.args.number) + 0) ≤ 64 = omega (arith, fits, ap length c.in_ok-push_ones.ensures.appended, length-append old (replicate c.args.zeros 1), length-replicate {A = ℕ} c.args.zeros 1) in
    absurd (false≢true (c.in_err-push_number.ensures.fits 0 written).0)
