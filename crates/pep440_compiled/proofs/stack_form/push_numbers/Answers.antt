use Rattle.std.proofs.Common.{[], ◌++◌, ◌∷◌, append-nil, arith, refl, sym}
use Rattle.std.proofs.lemmas.Bool.{false≢true}
use Rattle.std.proofs.lemmas.List.{length-append}
use Rattle.pep440_compiled.proofs.PrintedParts.{goes_on_next, goes_on_no_more, next_fits, next_on}
use Rattle.pep440_compiled.proofs.WrittenForm.{number_more, one_number}
use Rattle.pep440_compiled.proofs.stack_form.push_numbers.Goals as goal
use Rattle.pep440_keys.specs.SortKeys.{number_bytes}
use Rattle.std.specs.List.{flat_map}

pub loop-number-init : goal.loop-number-init
loop-number-init c =
    let first = c.args.first in
    let pushed = c.in_ok-zeros.ensures.appended c.args.form.now.items [] refl (sym (append-nil c.args.form.now.items)) in
    record {
      read = λ digits is. (first ∷ [], one_number (digits ++ c.args.text.now) c.args.text.now (first ∷ []) first (digits, is, refl) refl, pushed.0, pushed.1);
      printed = λ others rest fit ends e fits. record { done = first ∷ []; more = others; is = refl; fit = fit; split = e; zeros_are = pushed.0; written = pushed.1 };
    }

pub loop-number-preserved : goal.loop-number-preserved
loop-number-preserved c =
    let number = c.in-Some.number in
    record {
      read = λ digits is.
          let held = c.loop-number.invariant.read digits is in
          let pushed = c.in_ok-zeros-2.ensures.appended c.args.form.now.items held.0 held.2 held.3 in
          let one = c.in-Some.ensures.number in
          (held.0 ++ number ∷ [], number_more (digits ++ c.args.text.now) c.loop-number.rest.now (one.0 ++ c.in-Some.later.now) c.in-Some.later.now held.0 (held.0 ++ number ∷ []) number held.1 one.2 (one.0, one.1, refl) refl, pushed.0, pushed.1);
      printed = λ others rest fit ends e fits.
          let on = c.loop-number.invariant.printed others rest fit ends e fits in
          let next = next_on on ends c.in-Some.ensures.number c.in-Some.ensures.found in
          goes_on_next on next (c.in_ok-zeros-2.ensures.appended c.args.form.now.items on.done on.zeros_are on.written);
    }

pub returns-in_err-zeros-clause-fits : goal.returns-in_err-zeros-clause-fits
returns-in_err-zeros-clause-fits c = λ others rest fit ends e fits.
    absurd (false≢true (c.in_err-zeros.ensures.fits (omega (arith, fits, length-append (number_bytes 1 c.args.first) (flat_map (number_bytes 1) others)))))

pub returns-in_err-zeros-2-clause-fits : goal.returns-in_err-zeros-2-clause-fits
returns-in_err-zeros-2-clause-fits c = λ others rest fit ends e fits.
    let on = c.loop-number.invariant.printed others rest fit ends e fits in
    let next = next_on on ends c.in-Some.ensures.number c.in-Some.ensures.found in
    absurd (false≢true (c.in_err-zeros-2.ensures.fits (next_fits on next fits)))

pub returns-clause-appended : goal.returns-clause-appended
returns-clause-appended c = λ digits is.
    let held = c.loop-number.invariant.read digits is in
    (held.1.done, held.0, held.1.release, held.1.split, held.2, held.3)

pub returns-clause-fits : goal.returns-clause-fits
returns-clause-fits c = λ others rest fit ends e fits.
    goes_on_no_more (c.loop-number.invariant.printed others rest fit ends e fits) ends c.in_default.ensures.found
