use Rattle.std.proofs.Common.{refl}
use Rattle.std.proofs.Output.{has_written_styled_append}
use Rattle.pep440_rs.proofs.list.error.write_line.Goals as goal

pub returns : goal.returns
returns g c = λ flush ok.
    let colon = c.in_ok-write_str.ensures.styled flush refl in
    let line = c.in_ok-write_str-2.ensures.styled colon.flush refl in
    let newline = c.in_ok-write_str-3.ensures.styled line.flush refl in
    has_written_styled_append _ _ _ _ _ _ colon (has_written_styled_append _ _ _ _ _ _ line (has_written_styled_append _ _ _ _ _ _ newline
    (c.write_caret_line.ensures newline.flush ok)))
