use Rattle.std.proofs.Common.{◌≡◌, ◌∙◌, ◌++◌, ◌∷◌, [], ap, refl, replicate}
use Rattle.std.specs.Prelude.{slice_range}
use Rattle.std.proofs.Output.{has_written_styled_append, has_written_styled_of_eq}
use Rattle.pep440_rs.specs.Lists.ListErrorTexts.{columns}
use Rattle.pep440_rs.proofs.list.error.write_caret_line.Goals as goal

pub returns : goal.returns
returns g c = λ flush ok.
    let blanks = c.in_ok-write_times.ensures flush refl in
    let carets = c.in_ok-write_times-2.ensures blanks.flush refl in
    let before : c.width.result ≡ columns (slice_range c.args.line.now 0 c.args.start) = c.width.ensures.value ∙ ap columns c.range.ensures.value in
    let inside : c.width-2.result ≡ columns (slice_range c.args.line.now c.args.start c.args.stop) = c.width-2.ensures.value ∙ ap columns c.range-2.ensures.value in
    has_written_styled_of_eq _ _ _ _ _ (λ i. replicate (before i) 32 ++ (replicate (inside i) 94 ++ 10 ∷ []))
    (has_written_styled_append _ _ _ _ _ _ blanks (has_written_styled_append _ _ _ _ _ _ carets (c.write_str.ensures.styled carets.flush ok)))
