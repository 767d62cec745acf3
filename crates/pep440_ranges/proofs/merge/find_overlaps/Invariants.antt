use Rattle.std.proofs.Common.{◌≡◌, ◌++◌, ◌+◌, length}
use Rattle.pep440_ranges.specs.RangeSegments.{IsRange}
use Rattle.pep440_ranges.specs.Intersection.{overlaps}
use Rattle.pep440_ranges.specs.Clones.{ClonesEach}
use Rattle.pep440_ranges.proofs.merge.find_overlaps.Given as goal

abbrev pub invariant-loop-s : goal.invariant-loop-s
invariant-loop-s g l = record {
  same : l.shared.items ++ overlaps g.V.Ord.cmp l.left_rest l.right_rest ≡ overlaps g.V.Ord.cmp l.left l.right;
  left : IsRange g.V.Ord.cmp l.left_rest;
  right : IsRange g.V.Ord.cmp l.right_rest;
  clones_left : ClonesEach g.V.Clone.is_clone l.left_rest;
  clones_right : ClonesEach g.V.Clone.is_clone l.right_rest;
}

abbrev pub decreases-loop-s : goal.decreases-loop-s
decreases-loop-s g l = length l.left_rest + length l.right_rest
