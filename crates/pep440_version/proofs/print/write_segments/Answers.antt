use Rattle.std.proofs.Common.{refl, ◌++◌, ◌∷◌, []}
use Rattle.pep440_version.specs.Print.{print_segment}
use Rattle.pep440_version.specs.Segments.{segment}
use Rattle.pep440_version.proofs.RoundTrip.Writing.{flat_map_item}
use Rattle.std.proofs.Output.{has_written_styled_append, has_written_styled_of_eq}
use Rattle.pep440_version.proofs.print.write_segments.Goals as goal

pub loop-local_segment-preserved : goal.loop-local_segment-preserved
loop-local_segment-preserved g c = λ flush.
    let was = c.loop-local_segment.invariant flush in
    has_written_styled_of_eq _ _ _ _ _ (flat_map_item (λ s. 46 ∷ [] ++ print_segment (segment s)) c.args.segments.now c.loop-local_segment.local_segment-index c.local_segment-item.result c.local_segment-item.is c.loop-local_segment-test.true)
    (has_written_styled_append _ _ _ _ _ _ was (c.in_ok-write_dotted_segment.ensures was.flush refl))
