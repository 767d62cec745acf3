use Rattle.std.proofs.Common.{◌≡◌, ◌∙◌, ap, sym, true}
use Rattle.pep440_compiled.proofs.WrittenForm.{no_digit}
use Rattle.pep440_compiled.proofs.stack_form.split_numeral.Goals as goal
use Rattle.pep440_version.specs.Grammar.{starts}
use Rattle.pep440_version.specs.RoundTrip.{is_lower}

pub returns-in_err-number-clause-found : goal.returns-in_err-number-clause-found
returns-in_err-number-clause-found c = λ digits rest n is stop e. absurd (c.in_err-number.ensures.found digits rest n is (no_digit rest stop) e)

pub returns-then-begins_lower-clause-found : goal.returns-then-begins_lower-clause-found
returns-then-begins_lower-clause-found c = λ digits rest n is stop e.
    let same = c.in_ok-number.ensures.found digits rest n is (no_digit rest stop) e in
    let begins : starts is_lower c.in_ok-number.rest.now ≡ true = sym c.begins_lower.ensures ∙ c.if-begins_lower.true in
    cc (sym begins ∙ ap (starts is_lower) same.1 ∙ stop)

pub returns-clause-found : goal.returns-clause-found
returns-clause-found c = λ digits rest n is stop e. c.in_ok-number.ensures.found digits rest n is (no_digit rest stop) e
