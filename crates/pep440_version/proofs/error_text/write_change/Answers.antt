use Rattle.std.proofs.Common.{refl, codes}
use Rattle.std.proofs.Output.{has_written_styled_append}
use Rattle.std.specs.Fmt.{decimal}
use Rattle.pep440_version.proofs.error_text.write_change.Goals as goal

pub returns : goal.returns
returns g c = λ flush ok.
    let label = c.in_ok-write_str.ensures.styled flush refl in
    let number = c.in_ok-write_number.ensures label.flush refl in
    has_written_styled_append _ _ (codes "change ") _ _ _ label (has_written_styled_append _ _ (decimal c.args.position) _ _ _ number (c.write_str-2.ensures.styled number.flush ok))
