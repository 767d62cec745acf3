use Rattle.std.proofs.Common.{◌∙◌}
use Rattle.pep440_version.proofs.RoundTrip.Writing.{buffer_has}
use Rattle.std.proofs.Output.{has_written_styled_of_eq}
use Rattle.pep440_version.proofs.print.write_long_number.Goals as goal

pub returns : goal.returns
returns g c = λ flush ok.
    let has = buffer_has _ _ _ c.new-text.ensures.text c.new-text.ensures.intact c.in_ok-write.ensures.writes in
    has_written_styled_of_eq _ _ _ _ _ (c.as_str.ensures.value ∙ has) (c.write_str.ensures.styled flush ok)
