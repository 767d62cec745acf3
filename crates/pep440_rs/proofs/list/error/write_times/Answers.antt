use Rattle.std.proofs.Common.{◌++◌, ◌∙◌, ap, refl, replicate}
use Rattle.std.proofs.Output.{has_written_styled_append, has_written_styled_of_eq}
use Rattle.std.proofs.lemmas.Str.{encode_ascii}
use Rattle.pep440_rs.proofs.Reread.Prints.{replicate_more}
use Rattle.pep440_rs.proofs.list.error.write_times.Goals as goal

pub loop-i-preserved : goal.loop-i-preserved
loop-i-preserved g c = λ flush.
    let was = c.loop-i.invariant flush in
    has_written_styled_of_eq _ _ _ _ _ (ap (λ t. replicate c.loop-i._i c.args.character ++ t) (encode_ascii c.args.character c.requires.ascii) ∙ replicate_more c.loop-i._i c.args.character)
    (has_written_styled_append _ _ _ _ _ _ was (c.in_ok-write_char.ensures.styled was.flush refl))
