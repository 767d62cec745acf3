use Rattle.std.proofs.Common.{refl}
use Rattle.pep440_version.proofs.RoundTrip.Writing.{segments_prefix}
use Rattle.std.proofs.Output.{has_written_styled_append, has_written_styled_of_eq}
use Rattle.pep440_version.proofs.print.write_local_segments.Goals as goal

pub returns-in_ok-write_segment-in-len1-up : goal.returns-in_ok-write_segment-in-len1-up
returns-in_ok-write_segment-in-len1-up g c = λ flush ok.
    let prefix = c.in_ok-write_segment-in-len1-up.ensures flush refl in
    has_written_styled_of_eq _ _ _ _ _ (segments_prefix c.args.local.now c.first-item.result c.first-item.is c.in-len1-up.len_at_least)
    (has_written_styled_append _ _ _ _ _ _ prefix (c.write_segments.ensures prefix.flush ok))
