use Rattle.std.specs.Fmt.{HasWrittenStyled, IsFlush}
use Rattle.pep440_rs.proofs.Reread.SegmentLines.{Wrote}
use Rattle.pep440_rs.proofs.range.lines.write_segments.Given as goal

abbrev pub invariant-loop-start : goal.invariant-loop-start
invariant-loop-start g l =
    Wrote (λ text. IsFlush l.initial.f → HasWrittenStyled g.W.Write.write_str_gives l.initial.f text l.f) l.range l.start-iterator
