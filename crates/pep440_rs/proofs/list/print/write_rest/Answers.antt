use Rattle.std.proofs.Common.{refl}
use Rattle.std.proofs.Output.{has_written_styled_append}
use Rattle.pep440_rs.proofs.list.print.write_rest.Goals as goal

pub returns : goal.returns
returns g c = λ flush ok.
    let comma = c.in_ok-write_str.ensures.styled flush refl in
    has_written_styled_append _ _ _ _ _ _ comma (c.write_specifier.ensures comma.flush ok)
