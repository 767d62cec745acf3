use Rattle.std.proofs.Common.{[], map, refl}
use Rattle.pyver_documents.specs.DocumentViews.{string_reading_of}
use Rattle.pyver_documents.specs.Together.{FindsOfPart}
use Rattle.pyver_findings.proofs.MarkedConflicts.{each_done, each_more, start}
use Rattle.pyver_projects.specs.ProjectStrings.{section_of}
use Rattle.pyver_documents.proofs.together.conflicts_of_parts.Goals as goal

pub loop-part-init : goal.loop-part-init
loop-part-init c = start _ _ _ _ _ c.new-findings.ensures.items refl

pub loop-part-preserved : goal.loop-part-preserved
loop-part-preserved c =
    each_more section_of (FindsOfPart c.args.together (map (λ n. n.items) c.args.overridden.now) (map string_reading_of c.args.strings.now)) c.args.parts.now c.loop-part.part-index c.part-item.result [] _ _ _ _ _ c.loop-part-test.true c.part-item.is c.in_ok-push_part_conflicts.ensures c.loop-part.invariant

pub returns : goal.returns
returns c = each_done section_of (FindsOfPart c.args.together (map (λ n. n.items) c.args.overridden.now) (map string_reading_of c.args.strings.now)) c.args.parts.now c.loop-part.part-index [] _ _ _ c.loop-part-test.false c.loop-part.invariant
