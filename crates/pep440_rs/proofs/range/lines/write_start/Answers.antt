use Rattle.std.proofs.Common.{ap, codes, refl, sym}
use Rattle.std.proofs.Output.{has_written_styled_append, has_written_styled_of_eq}
use Rattle.pep440_rs.specs.RangeLines.{start_text}
use Rattle.pep440_rs.proofs.range.lines.write_start.Goals as goal

pub returns-in_ok-write_str-in-Included : goal.returns-in_ok-write_str-in-Included
returns-in_ok-write_str-in-Included g c = λ flush ok.
    let bracket = c.in_ok-write_str-in-Included.ensures.styled flush refl in
    has_written_styled_of_eq _ _ _ _ _ (sym (ap start_text c.in-Included.is)) (has_written_styled_append _ _ (codes "[") _ _ _ bracket (c.fmt.ensures.styled bracket.flush ok))

pub returns-in_ok-write_str-in-Excluded : goal.returns-in_ok-write_str-in-Excluded
returns-in_ok-write_str-in-Excluded g c = λ flush ok.
    let bracket = c.in_ok-write_str-in-Excluded.ensures.styled flush refl in
    has_written_styled_of_eq _ _ _ _ _ (sym (ap start_text c.in-Excluded.is)) (has_written_styled_append _ _ (codes "(") _ _ _ bracket (c.fmt-in-Excluded.ensures.styled bracket.flush ok))
