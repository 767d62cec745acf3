use Rattle.std.proofs.Common.{◌≡◌, drop}
use Rattle.std.specs.Prelude.{map}
use Rattle.pyver_markers.specs.Extents.{condition_of}
use Rattle.pyver_markers.specs.Conditions.{first_asked}
use Rattle.pyver_markers.proofs.text_condition.find_first_text.Given as goal

abbrev pub invariant-loop-condition : goal.invariant-loop-condition
invariant-loop-condition l = first_asked l.name (map condition_of (drop l.condition-index l.conditions)) ≡ first_asked l.name (map condition_of l.conditions)
