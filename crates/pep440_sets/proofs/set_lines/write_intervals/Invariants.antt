use Rattle.std.proofs.Common.{◌≡◌, ◌++◌, List, ℕ}
use Rattle.std.specs.Fmt.{HasWrittenStyled, IsFlush}
use Rattle.std.specs.List.{flat_map}
use Rattle.pep440_sets.specs.SetLines.{interval_line}
use Rattle.pep440_sets.proofs.set_lines.write_intervals.Given as goal

-- what was written, and the lines of the intervals that are left, are all lines
abbrev pub invariant-loop-start : goal.invariant-loop-start
invariant-loop-start g l =
    (text : List ℕ) × (text ++ flat_map interval_line l.start-iterator ≡ flat_map interval_line l.intervals)
    × (IsFlush l.initial.f → HasWrittenStyled g.W.Write.write_str_gives l.initial.f text l.f)
