use Rattle.std.proofs.Common.{drop, map}
use Rattle.pep440_pick.specs.Requirements.{needed}
use Rattle.pep440_pick.proofs.Joined.{Gathers}
use Rattle.pep440_pick.proofs.allowed_range.collect_members.Given as goal

abbrev pub invariant-loop-requirement : goal.invariant-loop-requirement
invariant-loop-requirement l = Gathers l.name l.members.items (map needed (drop l.requirement-index l.requirements)) (map needed l.requirements)
