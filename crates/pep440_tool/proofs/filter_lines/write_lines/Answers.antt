use Rattle.std.proofs.Common.{refl}
use Rattle.std.proofs.Output.{has_written_styled_append, has_written_styled_of_eq}
use Rattle.pep440_version.proofs.RoundTrip.Writing.{flat_map_item}
use Rattle.pep440_version.specs.Print.{print}
use Rattle.pep440_tool.specs.Answers.{line}
use Rattle.pep440_tool.proofs.filter_lines.write_lines.Goals as goal

pub loop-version-preserved : goal.loop-version-preserved
loop-version-preserved g c = λ flush.
    let was = c.loop-version.invariant flush in
    has_written_styled_of_eq _ _ _ _ _ (flat_map_item (λ v. line (print v)) c.args.versions.now c.loop-version.version-index c.version-item.result c.version-item.is c.loop-version-test.true)
    (has_written_styled_append _ _ _ _ _ _ was (c.in_ok-write_line.ensures was.flush refl))
