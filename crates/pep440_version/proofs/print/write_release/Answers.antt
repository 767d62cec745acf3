use Rattle.std.proofs.Common.{refl}
use Rattle.pep440_version.proofs.RoundTrip.Writing.{dotted_prefix}
use Rattle.std.proofs.Output.{has_written_styled_append, has_written_styled_of_eq}
use Rattle.pep440_version.proofs.print.write_release.Goals as goal

pub returns-in_ok-write_number-in-len1-up : goal.returns-in_ok-write_number-in-len1-up
returns-in_ok-write_number-in-len1-up g c = λ flush ok.
    let prefix = c.in_ok-write_number-in-len1-up.ensures flush refl in
    has_written_styled_of_eq _ _ _ _ _ (dotted_prefix c.args.release.now c.in-len1-up.len_at_least)
    (has_written_styled_append _ _ _ _ _ _ prefix (c.write_dotted.ensures prefix.flush ok))
