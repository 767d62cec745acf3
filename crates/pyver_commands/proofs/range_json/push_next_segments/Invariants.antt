use Rattle.std.proofs.Common.{◌≡◌, ◌++◌}
use Rattle.std.specs.List.{flat_map}
use Rattle.pyver_commands.specs.CommonRanges.{next_segment}
use Rattle.pyver_commands.proofs.range_json.push_next_segments.Given as goal

abbrev pub invariant-loop-start : goal.invariant-loop-start
invariant-loop-start l = l.bytes.items ++ flat_map next_segment l.start-iterator ≡ l.initial.bytes.items ++ flat_map next_segment l.initial.start-iterator
