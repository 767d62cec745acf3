use Rattle.std.proofs.Common.{refl}
use Rattle.std.proofs.Output.{has_written_styled_append}
use Rattle.pep440_version.proofs.print.write_dotted_segment.Goals as goal

pub returns : goal.returns
returns g c = λ flush ok.
    let dot = c.in_ok-write_str.ensures.styled flush refl in
    has_written_styled_append _ _ _ _ _ _ dot (c.write_segment.ensures dot.flush ok)
