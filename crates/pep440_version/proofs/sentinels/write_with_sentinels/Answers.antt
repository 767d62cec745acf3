use Rattle.std.proofs.Common.{refl}
use Rattle.std.proofs.Output.{has_written_styled_append, has_written_styled_of_eq}
use Rattle.pep440_version.proofs.sentinels.write_with_sentinels.Goals as goal

pub returns : goal.returns
returns g c = λ flush ok.
    let prefix = c.in_ok-fmt.ensures.styled flush refl in
    let min = c.in_ok-write_sentinel.ensures prefix.flush refl in
    has_written_styled_of_eq _ _ _ _ _ (rw (c.min.ensures, c.max.ensures) refl)
    (has_written_styled_append _ _ _ _ _ _ prefix (has_written_styled_append _ _ _ _ _ _ min (c.write_sentinel-2.ensures min.flush ok)))
