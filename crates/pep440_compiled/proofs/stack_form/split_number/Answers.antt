use Rattle.std.proofs.Common.{◌≡◌, ◌∙◌, ◌+◌, ◌*◌, ◌-◌, [], ap, arith, false, get_or, refl, subst, sym, true}
use Rattle.std.proofs.lemmas.List.{drop_all, nil_from_length}
use Rattle.std.specs.Char.{is_ascii_digit}
use Rattle.pep440_compiled.proofs.PrintedParts.{no_number, number_bounds, number_is}
use Rattle.pep440_compiled.proofs.WrittenForm.{number_ended}
use Rattle.pep440_version.proofs.Reading.NormalParts.{Digits, digit_more, rest_of, starts_at}
use Rattle.pep440_compiled.proofs.stack_form.split_number.Goals as goal
use Rattle.pep440_version.specs.Grammar.{starts}

pub returns-then-not-is_ascii_digit-2-clause-number : goal.returns-then-not-is_ascii_digit-2-clause-number
returns-then-not-is_ascii_digit-2-clause-number c =
    number_ended c.args.text.now _ c.in_ok-first.rest.now c.loop-i.i c.loop-i.number c.loop-i.invariant.1 c.loop-i.invariant.0 (rest_of c.loop-i.i c.in_ok-first.rest.now)

pub loop-i-preserved : goal.loop-i-preserved
loop-i-preserved c =
    let rest = c.in_ok-first.rest.now in
    let digit : is_ascii_digit (get_or rest c.loop-i.i 0) ≡ true = sym c.is_ascii_digit-in-loop-i.ensures.value ∙ c.if-not-is_ascii_digit-2.false in
    let more = digit_more c.args.text.now rest c.loop-i.i c.loop-i.number (omega arith) c.loop-i.invariant.1 digit in
    let value : c.loop-i.number * 10 + (get_or rest c.loop-i.i 0 - 48) ≡ c.in_ok-number.number = omega (arith, c.in_ok-tens.ensures.1, c.in_ok-number.ensures.1, c.from.ensures) in
    (omega (arith, c.in_ok-number.ensures.0, c.in_ok-number.ensures.1), subst (Digits c.args.text.now rest (c.loop-i.i + 1)) value more)

pub returns-in_err-first-clause-found : goal.returns-in_err-first-clause-found
returns-in_err-first-clause-found c = λ digits rest n is stop e. absurd (no_number c.args.text.now (ap (starts is_ascii_digit) (nil_from_length c.args.text.now c.in_err-first.ensures.cases)) digits rest n is e)

pub returns-then-not-is_ascii_digit-clause-found : goal.returns-then-not-is_ascii_digit-clause-found
returns-then-not-is_ascii_digit-clause-found c = λ digits rest n is stop e.
    let none : starts is_ascii_digit c.args.text.now ≡ false = ap (starts is_ascii_digit) c.in_ok-first.ensures.cases.0 ∙ sym c.is_ascii_digit.ensures.value ∙ c.if-not-is_ascii_digit.true in
    no_number c.args.text.now none digits rest n is e

pub returns-then-not-is_ascii_digit-2-clause-found : goal.returns-then-not-is_ascii_digit-2-clause-found
returns-then-not-is_ascii_digit-2-clause-found c =
    let ended = starts_at is_ascii_digit c.loop-i.i c.in_ok-first.rest.now (omega arith) (sym c.is_ascii_digit-in-loop-i.ensures.value ∙ c.if-not-is_ascii_digit-2.true) in
    number_is c.args.text.now c.in_ok-first.rest.now _ c.loop-i.i c.loop-i.number c.loop-i.invariant.1 (rest_of c.loop-i.i c.in_ok-first.rest.now) ended

pub returns-in_err-tens-clause-found : goal.returns-in_err-tens-clause-found
returns-in_err-tens-clause-found c = λ digits rest n is stop e.
    let tail = c.in_ok-first.rest.now in
    let digit : is_ascii_digit (get_or tail c.loop-i.i 0) ≡ true = sym c.is_ascii_digit-in-loop-i.ensures.value ∙ c.if-not-is_ascii_digit-2.false in
    let more = digit_more c.args.text.now tail c.loop-i.i c.loop-i.number (omega arith) c.loop-i.invariant.1 digit in
    let bound = number_bounds c.args.text.now tail (c.loop-i.i + 1) _ more digits rest n is stop e in
    absurd (omega (arith, bound, is.3, c.in_err-tens.ensures))

pub returns-in_err-number-clause-found : goal.returns-in_err-number-clause-found
returns-in_err-number-clause-found c = λ digits rest n is stop e.
    let tail = c.in_ok-first.rest.now in
    let digit : is_ascii_digit (get_or tail c.loop-i.i 0) ≡ true = sym c.is_ascii_digit-in-loop-i.ensures.value ∙ c.if-not-is_ascii_digit-2.false in
    let more = digit_more c.args.text.now tail c.loop-i.i c.loop-i.number (omega arith) c.loop-i.invariant.1 digit in
    let bound = number_bounds c.args.text.now tail (c.loop-i.i + 1) _ more digits rest n is stop e in
    absurd (omega (arith, bound, is.3, c.in_ok-tens.ensures.1, c.from.ensures, c.in_err-number.ensures))

pub returns-clause-found : goal.returns-clause-found
returns-clause-found c =
    number_is c.args.text.now c.in_ok-first.rest.now [] c.loop-i.i c.loop-i.number c.loop-i.invariant.1 (sym (drop_all c.loop-i.i c.in_ok-first.rest.now c.loop-i-test.false)) refl
