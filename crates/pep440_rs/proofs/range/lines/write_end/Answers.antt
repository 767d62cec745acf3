use Rattle.std.proofs.Common.{ap, refl, sym}
use Rattle.std.proofs.Output.{has_written_styled_append, has_written_styled_of_eq}
use Rattle.pep440_rs.specs.RangeLines.{end_text}
use Rattle.pep440_rs.proofs.range.lines.write_end.Goals as goal

pub returns-in_ok-fmt-in-Included : goal.returns-in_ok-fmt-in-Included
returns-in_ok-fmt-in-Included g c = λ flush ok.
    let version = c.in_ok-fmt-in-Included.ensures.styled flush refl in
    has_written_styled_of_eq _ _ _ _ _ (sym (ap end_text c.in-Included.is)) (has_written_styled_append _ _ _ _ _ _ version (c.write_str.ensures.styled version.flush ok))

pub returns-in_ok-fmt-in-Excluded : goal.returns-in_ok-fmt-in-Excluded
returns-in_ok-fmt-in-Excluded g c = λ flush ok.
    let version = c.in_ok-fmt-in-Excluded.ensures.styled flush refl in
    has_written_styled_of_eq _ _ _ _ _ (sym (ap end_text c.in-Excluded.is)) (has_written_styled_append _ _ _ _ _ _ version (c.write_str-in-Excluded.ensures.styled version.flush ok))
