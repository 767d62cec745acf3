use Rattle.std.proofs.Common.{refl, ◌++◌, codes}
use Rattle.pep440_version.proofs.RoundTrip.Writing.{flat_map_item}
use Rattle.std.proofs.Output.{has_written_styled_append, has_written_styled_of_eq}
use Rattle.pep440_rs.specs.Specifiers.{print_spec}
use Rattle.pep440_rs.proofs.list.print.write_members.Goals as goal

pub loop-member-preserved : goal.loop-member-preserved
loop-member-preserved g c = λ flush.
    let was = c.loop-member.invariant flush in
    has_written_styled_of_eq _ _ _ _ _ (flat_map_item (λ s. codes ", " ++ print_spec s) c.args.members.now c.loop-member.member-index c.member-item.result c.member-item.is c.loop-member-test.true)
    (has_written_styled_append _ _ _ _ _ _ was (c.in_ok-write_rest.ensures was.flush refl))
