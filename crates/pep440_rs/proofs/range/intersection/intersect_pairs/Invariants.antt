use Rattle.std.proofs.Common.{◌≡◌, ◌≤◌, ◌+◌, ◌-◌, ◌++◌, length}
use Rattle.std.specs.List.{All}
use Rattle.pep440_rs.specs.Bounds.{Segments}
use Rattle.pep440_rs.specs.Conversions.{IsUnchangedByFull}
use Rattle.pep440_rs.proofs.Intersecting.Neighbours.{met}
use Rattle.pep440_rs.proofs.range.intersection.intersect_pairs.Given as goal

-- a range that is left alone at the end counts for two
abbrev pub invariant-loop-first : goal.invariant-loop-first
invariant-loop-first l = record {
  same : (now : Segments) → met now (l.pairs.items ++ l.rest) ≡ met now l.initial.rest;
  kept : All IsUnchangedByFull l.initial.rest → All IsUnchangedByFull l.pairs.items × All IsUnchangedByFull l.rest;
  few : length l.pairs.items + length l.pairs.items + length l.rest ≤ length l.initial.rest + (1 - length l.rest);
}

abbrev pub decreases-loop-first : goal.decreases-loop-first
decreases-loop-first l = length l.rest
