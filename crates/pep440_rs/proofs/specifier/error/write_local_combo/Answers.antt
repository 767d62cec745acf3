use Rattle.std.proofs.Common.{refl}
use Rattle.std.proofs.Output.{has_written_styled_append, has_written_styled_of_eq}
use Rattle.pep440_rs.proofs.specifier.error.write_local_combo.Goals as goal

pub returns : goal.returns
returns g c = λ flush ok.
    let before = c.in_ok-write_str.ensures.styled flush refl in
    let operator = c.in_ok-write_str-2.ensures.styled before.flush refl in
    has_written_styled_of_eq _ _ _ _ _ (rw c.as_str.ensures refl)
    (has_written_styled_append _ _ _ _ _ _ before (has_written_styled_append _ _ _ _ _ _ operator (c.write_incompatible.ensures operator.flush ok)))
