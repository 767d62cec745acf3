use Rattle.std.proofs.Common.{refl, ◌++◌, ◌∷◌, []}
use Rattle.std.specs.Fmt.{decimal}
use Rattle.pep440_version.proofs.RoundTrip.Writing.{flat_map_take}
use Rattle.std.proofs.Output.{has_written_styled_append, has_written_styled_of_eq}
use Rattle.pep440_version.proofs.print.write_dotted.Goals as goal

pub loop-n-preserved : goal.loop-n-preserved
loop-n-preserved g c = λ flush.
    let was = c.loop-n.invariant flush in
    has_written_styled_of_eq _ _ _ _ _ (flat_map_take (λ n. 46 ∷ [] ++ decimal n) c.args.numbers.now c.loop-n.n-index 0 c.loop-n-test.true)
    (has_written_styled_append _ _ _ _ _ _ was (c.in_ok-write_after_label.ensures was.flush refl))
