use Rattle.std.proofs.Common.{◌≡◌, ◌++◌, codes, drop, map}
use Rattle.std.specs.List.{flat_map}
use Rattle.pyver_markers.specs.Extents.{assignment_of}
use Rattle.pyver_markers.specs.Environments.{Assignment, assignment_text}
use Rattle.pyver_markers.proofs.environment.push_others.Given as goal

abbrev pub invariant-loop-variable : goal.invariant-loop-variable
invariant-loop-variable l =
    let text = λ (x : Assignment). codes " and " ++ assignment_text x in
    l.output.items ++ flat_map text (map assignment_of (drop l.variable-index l.variables)) ≡ l.initial.output.items ++ flat_map text (map assignment_of l.variables)
