use Rattle.std.proofs.Common.{◌≡◌, ◌++◌}
use Rattle.pep440_rs.specs.Bounds.{Segments}
use Rattle.pep440_calls.specs.CallResults.{JoinsBounds}
use Rattle.pep440_calls.proofs.list_ranges.join_bounds.Given as goal

-- the bounds of the segments that were taken are joined
abbrev pub invariant-loop-low : goal.invariant-loop-low
invariant-loop-low l = (done : Segments) × JoinsBounds done l.found.bytes.items l.found.ends.items × (done ++ l.low-iterator ≡ l.range)
