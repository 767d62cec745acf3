use Rattle.std.proofs.Common.{◌≡◌, length}
use Rattle.std.specs.List.{All}
use Rattle.pep440_rs.specs.Bounds.{Segments}
use Rattle.pep440_rs.specs.Conversions.{IsUnchangedByFull}
use Rattle.pep440_rs.proofs.Intersecting.Neighbours.{met}
use Rattle.pep440_rs.proofs.range.intersection.intersect_all.Given as goal

abbrev pub invariant-loop-level : goal.invariant-loop-level
invariant-loop-level l = record {
  same : (now : Segments) → met now l.level.items ≡ met now l.initial.level.items;
  kept : All IsUnchangedByFull l.level.items;
}

abbrev pub decreases-loop-level : goal.decreases-loop-level
decreases-loop-level l = length l.level.items
