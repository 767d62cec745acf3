use Rattle.std.proofs.Common.{◌≡◌, ◌∙◌, ◌+◌, ◌*◌, arith, get_or, subst, sym, true}
use Rattle.std.specs.Char.{is_ascii_digit}
use Rattle.pep440_version.proofs.Reading.NormalParts.{Digits, digit_more, number_ends, rest_of, starts_at}
use Rattle.pep440_version.proofs.parse.normal.parse_small_number.Goals as goal

pub returns-then-not-is_ascii_digit-2-clause-number : goal.returns-then-not-is_ascii_digit-2-clause-number
returns-then-not-is_ascii_digit-2-clause-number c =
    number_ends c.args.text.now _ c.in_ok-first.rest.now c.loop-i.i c.loop-i.number c.loop-i.invariant.1 c.loop-i.invariant.0 (rest_of c.loop-i.i c.in_ok-first.rest.now)

pub returns-then-not-is_ascii_digit-2-clause-ended : goal.returns-then-not-is_ascii_digit-2-clause-ended
returns-then-not-is_ascii_digit-2-clause-ended c =
    starts_at is_ascii_digit c.loop-i.i c.in_ok-first.rest.now (omega arith) (sym c.is_ascii_digit-in-loop-i.ensures.value ∙ c.if-not-is_ascii_digit-2.true)

pub loop-i-preserved : goal.loop-i-preserved
loop-i-preserved c =
    let digit : is_ascii_digit (get_or c.in_ok-first.rest.now c.loop-i.i 0) ≡ true = sym c.is_ascii_digit-in-loop-i.ensures.value ∙ c.if-not-is_ascii_digit-2.false in
    let more = digit_more c.args.text.now c.in_ok-first.rest.now c.loop-i.i c.loop-i.number (omega arith) c.loop-i.invariant.1 digit in
    (c.if-number-gt-MAX_SMALL_NUMBER.false, subst (λ v. Digits c.args.text.now c.in_ok-first.rest.now (c.loop-i.i + 1) (c.loop-i.number * 10 + v)) (sym c.from.ensures) more)
