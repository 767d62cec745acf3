use Rattle.std.proofs.Common.{subst, sym}
use Rattle.pep440_sets.proofs.SetBoundaries.{overlaps_set}
use Rattle.pep440_sets.specs.Boundaries.{IsVersionSet}
use Rattle.pep440_sets.proofs.set.VersionSet.intersection.Goals as goal

pub invariant_of-result : goal.invariant_of-result
invariant_of-result c = subst IsVersionSet (sym c.in_ok-intervals.ensures.segments) (overlaps_set c.self.inside.intervals c.other.inside.intervals c.self.invariant c.other.invariant)
