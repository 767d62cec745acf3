use Rattle.std.proofs.Common.{bytes_eq, map}
use Rattle.std.specs.List.{list_any}
use Rattle.pyver_projects.proofs.Walks.{IsWalked}
use Rattle.pyver_projects.specs.ProjectStrings.{has_key, inclusions_of}
use Rattle.pyver_projects.proofs.inclusions.included_groups.Given as goal

abbrev pub invariant-loop-steps : goal.invariant-loop-steps
invariant-loop-steps l = IsWalked (inclusions_of l.index) l.group l.steps (has_key l.names) (λ q. list_any (bytes_eq q) (map (λ n. n.now) l.groups.items))
