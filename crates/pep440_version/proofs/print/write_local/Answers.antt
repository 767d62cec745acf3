use Rattle.std.proofs.Common.{refl, sym, ◌∙◌}
use Rattle.pep440_version.proofs.RoundTrip.Writing.{with_plus}
use Rattle.std.proofs.Output.{has_written_styled_append, has_written_styled_of_eq}
use Rattle.pep440_version.proofs.print.write_local.Goals as goal

pub returns : goal.returns
returns g c = λ flush ok.
    let plus = c.in_ok-write_str.ensures.styled flush refl in
    has_written_styled_of_eq _ _ _ _ _ (with_plus c.args.local.now (sym c.is_empty.ensures ∙ c.if-is_empty.false))
    (has_written_styled_append _ _ _ _ _ _ plus (c.write_local_segments.ensures plus.flush ok))
