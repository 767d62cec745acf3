use Rattle.std.specs.List.{All}
use Rattle.std.specs.Vec.Iter.{into_iter_items}
use Rattle.pep440_rs.proofs.Raising.AtMax.{Left}
use Rattle.pep440_rs.proofs.Intersecting.Kept.{Kept}
use Rattle.pep440_rs.proofs.Intersecting.Neighbours.{met}
use Rattle.pep440_rs.specs.Bounds.{full}
use Rattle.pep440_rs.specs.Conversions.{IsUnchangedByFull, converted, raised_by}
use Rattle.pep440_rs.specs.RaisedNumbers.{raises_max}
use Rattle.pep440_rs.proofs.range.list.convert_members.Given as goal

abbrev pub invariant-loop-member : goal.invariant-loop-member
invariant-loop-member l = record {
  can : (goal.iterator-loop-member).can_next l.member-iterator;
  ends : (goal.iterator-loop-member).is_finite l.member-iterator;
  kept : Kept (converted l.fn.conversion) (met full l.ranges.items) (into_iter_items l.member-iterator) l.fn.members.items;
  left : Left (raises_max (raised_by l.fn.conversion)) (into_iter_items l.member-iterator) l.fn.members.items;
  each : All IsUnchangedByFull l.ranges.items;
}
