use Rattle.std.proofs.Common.{ap, ◌∙◌, subst, sym}
use Rattle.std.proofs.lemmas.List.Elements.{All-push}
use Rattle.std.specs.List.{All}
use Rattle.pep440_rs.proofs.Raising.AtMax.{left_step}
use Rattle.pep440_rs.proofs.Intersecting.Kept.{kept_step}
use Rattle.pep440_rs.proofs.Intersecting.Neighbours.{met, met_one_more}
use Rattle.pep440_rs.proofs.Intersecting.WholeLine.{converted_kept}
use Rattle.pep440_rs.specs.Bounds.{full}
use Rattle.pep440_rs.specs.Conversions.{IsUnchangedByFull, converted, raised_by}
use Rattle.pep440_rs.specs.RaisedNumbers.{raises_max}
use Rattle.pep440_rs.proofs.range.list.convert_members.Goals as goal

pub loop-member-preserved : goal.loop-member-preserved
loop-member-preserved c =
    let ranges = c.loop-member.ranges.items in
    let member = c.in-Some.member in
    let next = c.in_ok-next.next in
    record {
      can = tt;
      ends = tt;
      kept = kept_step (converted c.args.conversion) (met full ranges) next _ member _ _ c.args.members.items c.in-Some.ensures.steps.0 c.in_ok-next.ensures.range
          (ap (met full) c.in_ok-push.ensures.items ∙ met_one_more full next ranges) c.loop-member.invariant.kept;
      left = left_step (raises_max (raised_by c.args.conversion)) member _ _ c.args.members.items c.in-Some.ensures.steps.0 c.in_ok-next.ensures.at_max c.loop-member.invariant.left;
      each = subst (All IsUnchangedByFull) (sym c.in_ok-push.ensures.items)
          (All-push IsUnchangedByFull ranges next c.loop-member.invariant.each (converted_kept c.args.conversion member.operator member.version next c.in_ok-next.ensures.range));
    }
