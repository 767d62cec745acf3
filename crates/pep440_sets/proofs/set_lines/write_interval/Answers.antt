use Rattle.std.proofs.Common.{codes, refl}
use Rattle.std.proofs.Output.{has_written_styled_append}
use Rattle.pep440_sets.proofs.set_lines.write_interval.Goals as goal

pub returns : goal.returns
returns g c = λ flush ok.
    let start = c.in_ok-write_start.ensures flush refl in
    let comma = c.in_ok-write_str.ensures.styled start.flush refl in
    let end = c.in_ok-write_end.ensures comma.flush refl in
    has_written_styled_append _ _ _ _ _ _ start (has_written_styled_append _ _ (codes ", ") _ _ _ comma (has_written_styled_append _ _ _ _ _ _ end (c.write_str-2.ensures.styled end.flush ok)))
