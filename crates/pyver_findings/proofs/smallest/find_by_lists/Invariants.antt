use Rattle.std.proofs.Common.{◌≤◌, length, map}
use Rattle.pyver_findings.specs.Conflicts.{smallest}
use Rattle.pyver_findings.specs.Views.{demand_of}
use Rattle.pyver_findings.proofs.SmallestLists.{IsRound}
use Rattle.pyver_findings.proofs.smallest.find_by_lists.Given as goal

abbrev pub invariant-rounds : goal.invariant-rounds
invariant-rounds l = (length l.rest ≤ length l.lines) × IsRound (λ x. demand_of x.now) (smallest (map (λ x. demand_of x.now) l.lines)) l.kept.items l.rest

abbrev pub decreases-rounds : goal.decreases-rounds
decreases-rounds l = length l.rest
