use Rattle.std.proofs.Common.{refl, sym}
use Rattle.std.proofs.lemmas.Fmt.{decimal_step, decimal_digit}
use Rattle.std.proofs.Output.{has_written_styled_append, has_written_styled_of_eq}
use Rattle.pep440_version.proofs.print.+write_number.Goals as goal

pub returns : goal.returns
returns g t c = λ flush ok.
    let prefix = c.in_ok-write_number.ensures flush refl in
    has_written_styled_of_eq _ _ _ _ _ (sym (decimal_step c.args.n c.if-n-lt10.false c.ranges.n.fits))
    (has_written_styled_append _ _ _ _ _ _ prefix (c.write_digit-2.ensures prefix.flush ok))

pub returns-then-n-lt10 : goal.returns-then-n-lt10
returns-then-n-lt10 g t c = λ flush ok. has_written_styled_of_eq _ _ _ _ _ (sym (decimal_digit c.args.n c.if-n-lt10.true)) (c.write_digit.ensures flush ok)
