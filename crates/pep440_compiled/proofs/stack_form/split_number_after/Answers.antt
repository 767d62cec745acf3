use Rattle.std.proofs.Common.{◌∙◌, ◌++◌, Some, None, ap, nat_eq, refl, sym}
use Rattle.std.proofs.lemmas.List.{append_assoc}
use Rattle.std.specs.Fmt.{decimal}
use Rattle.std.specs.List.{starts_with}
use Rattle.pep440_compiled.proofs.Fronts.{starts}
use Rattle.pep440_compiled.proofs.WrittenForm.{labelled_number, same_after}
use Rattle.pep440_compiled.proofs.stack_form.split_number_after.Goals as goal
use Rattle.pep440_version.proofs.RoundTrip.PrintIsRead.{decimal_number}

pub returns-in_default-clause-suffix : goal.returns-in_default-clause-suffix
returns-in_default-clause-suffix c = λ class is. refl

pub returns-clause-suffix : goal.returns-clause-suffix
returns-clause-suffix c = λ class is.
    labelled_number c.args.word.now c.args.text.now c.in-Some.digits.now c.in_ok-number.rest.now class c.in_ok-number.number is c.in-Some.ensures c.in_ok-number.ensures.number c.in_ok-number.ensures.ended

pub returns-in_default-clause-printed : goal.returns-in_default-clause-printed
returns-in_default-clause-printed c None rest fits stop not e = (refl, e)
returns-in_default-clause-printed c (Some n) rest fits stop not e =
    let word = c.args.word.now in
    cc (sym (starts word (decimal n ++ rest)) ∙ ap (λ t. starts_with nat_eq t word) (sym (e ∙ append_assoc word (decimal n) rest)) ∙ c.in_default.ensures)

pub returns-in_err-number-clause-printed : goal.returns-in_err-number-clause-printed
returns-in_err-number-clause-printed c None rest fits stop not e = absurd (not c.in-Some.digits.now (sym e ∙ c.in-Some.ensures))
returns-in_err-number-clause-printed c (Some n) rest fits stop not e =
    let word = c.args.word.now in
    let digits = same_after word c.in-Some.digits.now (decimal n ++ rest) (sym c.in-Some.ensures ∙ e ∙ append_assoc word (decimal n) rest) in
    absurd (c.in_err-number.ensures.found (decimal n) rest n (decimal_number n fits) stop digits)

pub returns-clause-printed : goal.returns-clause-printed
returns-clause-printed c None rest fits stop not e = absurd (not c.in-Some.digits.now (sym e ∙ c.in-Some.ensures))
returns-clause-printed c (Some n) rest fits stop not e =
    let word = c.args.word.now in
    let digits = same_after word c.in-Some.digits.now (decimal n ++ rest) (sym c.in-Some.ensures ∙ e ∙ append_assoc word (decimal n) rest) in
    let number = c.in_ok-number.ensures.found (decimal n) rest n (decimal_number n fits) stop digits in
    (ap Some number.0, number.1)
