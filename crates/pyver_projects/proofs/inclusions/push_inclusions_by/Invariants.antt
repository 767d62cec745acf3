use Rattle.std.proofs.Common.{◌≡◌, ◌++◌, Some, drop, map}
use Rattle.pyver_projects.specs.ProjectStrings.{inclusions_by, inclusion_of}
use Rattle.pyver_projects.proofs.inclusions.push_inclusions_by.Given as goal

abbrev pub invariant-loop-name : goal.invariant-loop-name
invariant-loop-name l =
    map inclusion_of l.inclusions.items ++ inclusions_by (Some l.asker.items) (map (λ n. n.items) (drop l.name-index l.names)) ≡ map inclusion_of l.initial.inclusions.items ++ inclusions_by (Some l.asker.items) (map (λ n. n.items) l.names)
