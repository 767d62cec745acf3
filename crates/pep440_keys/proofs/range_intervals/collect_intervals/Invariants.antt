use Rattle.std.proofs.Common.{◌≡◌, ◌++◌, map}
use Rattle.pep440_keys.specs.RangeKeys.{segment_interval}
use Rattle.pep440_keys.proofs.range_intervals.collect_intervals.Given as goal

-- what was found, and the intervals of the segments that are left, are all intervals
abbrev pub invariant-loop-start : goal.invariant-loop-start
invariant-loop-start l = l.intervals.items ++ map segment_interval l.start-iterator ≡ map segment_interval l.range
