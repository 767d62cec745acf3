use Rattle.std.proofs.Common.{◌∙◌, ◌+◌, ◌++◌, ◌≤◌, ap, arith, length, subst, sym}
use Rattle.std.proofs.lemmas.Bool.{false≢true}
use Rattle.pep440_compiled.proofs.WrittenForm.{number_segment, numeral_is}
use Rattle.pep440_compiled.proofs.stack_form.push_numeral.Goals as goal
use Rattle.pep440_keys.specs.SortKeys.{segment_bytes}
use Rattle.pep440_version.specs.Record.{Number}

pub push_string-requires : goal.push_string-requires
push_string-requires c = c.in_default.ensures.found

pub returns-clause-appended : goal.returns-clause-appended
returns-clause-appended c =
    let is = c.in-Some.ensures.number in
    (is.0, Number c.in-Some.number, number_segment is.0 c.in-Some.number is.1, is.2, c.in_ok-push_number.ensures.appended)

pub returns-in_err-push_number-clause-fits : goal.returns-in_err-push_number-clause-fits
returns-in_err-push_number-clause-fits c = λ s rest printed fits.
    let same = numeral_is c.args.text.now c.in-Some.rest.now c.in-Some.number c.in-Some.ensures.number c.in-Some.ensures.ended s rest printed in
    let capacity = subst (λ v. length c.args.form.now.items + length (segment_bytes v) ≤ 64) same.0 fits in
    absurd (false≢true (c.in_err-push_number.ensures.fits 0 (omega (arith, capacity))).0)

pub returns-clause-fits : goal.returns-clause-fits
returns-clause-fits c = λ s rest printed fits.
    let same = numeral_is c.args.text.now c.in-Some.rest.now c.in-Some.number c.in-Some.ensures.number c.in-Some.ensures.ended s rest printed in
    (same.1, c.in_ok-push_number.ensures.appended ∙ ap (λ v. c.args.form.now.items ++ segment_bytes v) (sym same.0))
