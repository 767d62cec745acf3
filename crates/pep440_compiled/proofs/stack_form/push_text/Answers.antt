use Rattle.std.proofs.Common.{◌∙◌, ◌+◌, ◌++◌, ◌∷◌, [], ap, arith, length}
use Rattle.std.proofs.lemmas.Bool.{false≢true}
use Rattle.std.proofs.lemmas.List.{length-append}
use Rattle.pep440_compiled.proofs.WrittenForm.{string_written}
use Rattle.pep440_compiled.proofs.stack_form.push_text.Goals as goal

pub returns-clause-appended : goal.returns-clause-appended
returns-clause-appended c =
    let text = c.args.text.now in
    c.in_ok-append-3.ensures.appended ∙ ap (λ l. l ++ 0 ∷ []) (c.in_ok-append-2.ensures.appended ∙ ap (λ l. l ++ text) c.in_ok-append.ensures.appended) ∙ string_written c.args.form.now.items text

pub returns-in_err-append-clause-fits : goal.returns-in_err-append-clause-fits
returns-in_err-append-clause-fits c = λ fits.
    let text = c.args.text.now in
    absurd (false≢true (c.in_err-append.ensures.fits (length text + 1) (omega (arith, fits, length-append text (0 ∷ [])))).0)

pub returns-in_err-append-2-clause-fits : goal.returns-in_err-append-2-clause-fits
returns-in_err-append-2-clause-fits c = λ fits.
    let text = c.args.text.now in
    let first = c.in_ok-append.ensures.fits (length text + 1) (omega (arith, fits, length-append text (0 ∷ []))) in
    absurd (false≢true (c.in_err-append-2.ensures.fits 1 first.1).0)

pub returns-in_err-append-3-clause-fits : goal.returns-in_err-append-3-clause-fits
returns-in_err-append-3-clause-fits c = λ fits.
    let text = c.args.text.now in
    let first = c.in_ok-append.ensures.fits (length text + 1) (omega (arith, fits, length-append text (0 ∷ []))) in
    let second = c.in_ok-append-2.ensures.fits 1 first.1 in
    absurd (false≢true (c.in_err-append-3.ensures.fits 0 second.1).0)
