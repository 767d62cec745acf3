use Rattle.std.proofs.Common.{◌≡◌, drop}
use Rattle.std.specs.List.{list_all}
use Rattle.std.specs.Prelude.{map}
use Rattle.pyver_markers.specs.Extents.{condition_of}
use Rattle.pyver_markers.specs.Conditions.{is_met_at}
use Rattle.pyver_markers.proofs.text_condition.are_met_at.Given as goal

abbrev pub invariant-loop-condition : goal.invariant-loop-condition
invariant-loop-condition l = list_all (is_met_at l.name l.text) (map condition_of (drop l.condition-index l.conditions)) ≡ list_all (is_met_at l.name l.text) (map condition_of l.conditions)
