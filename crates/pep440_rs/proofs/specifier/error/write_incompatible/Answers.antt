use Rattle.std.proofs.Common.{refl}
use Rattle.std.proofs.Output.{has_written_styled_append}
use Rattle.pep440_rs.proofs.specifier.error.write_incompatible.Goals as goal

pub returns : goal.returns
returns g c = λ flush ok.
    let before = c.in_ok-write_str.ensures.styled flush refl in
    let local = c.in_ok-write_local_segments.ensures before.flush refl in
    has_written_styled_append _ _ _ _ _ _ before (has_written_styled_append _ _ _ _ _ _ local (c.write_str-2.ensures.styled local.flush ok))
