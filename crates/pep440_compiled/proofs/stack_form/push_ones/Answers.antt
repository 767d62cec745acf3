use Rattle.std.proofs.Common.{◌+◌, ◌≤◌, ap, arith, length}
use Rattle.std.proofs.lemmas.Bool.{false≢true}
use Rattle.std.proofs.lemmas.List.{length-append, length-replicate}
use Rattle.std.specs.Prelude.{ℕ, replicate}
use Rattle.pep440_compiled.proofs.stack_form.push_ones.Goals as goal

pub returns-in_err-append-clause-fits : goal.returns-in_err-append-clause-fits
returns-in_err-append-clause-fits c = λ fits.
    let old = c.args.form.now.items in
    let written : length c.loop.form.items + 1 ≤ 64 = omega (arith, fits, c.loop-test.true, ap length c.loop.invariant, length-append old (replicate c.loop.counter 1), length-replicate {A = ℕ} c.loop.counter 1) in
    absurd (false≢true (c.in_err-append.ensures.fits 0 written).0)
