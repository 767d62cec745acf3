use Rattle.std.proofs.Common.{ℕ, List, refl}
use Rattle.std.specs.Fmt.{HasWrittenStyled, IsFlush}
use Rattle.std.proofs.Output.{has_written_styled_append}
use Rattle.pep440_rs.proofs.Reread.SegmentLines.{wrote_more}
use Rattle.pep440_rs.proofs.range.lines.write_segments.Goals as goal

pub loop-start-preserved : goal.loop-start-preserved
loop-start-preserved g c =
    let P : List ℕ → Type 0 = λ text. IsFlush c.args.f.now → HasWrittenStyled g.W.Write.write_str_gives c.args.f.now text c.loop-start.f in
    let Q : List ℕ → Type 0 = λ text. IsFlush c.args.f.now → HasWrittenStyled g.W.Write.write_str_gives c.args.f.now text c.write_segment.new.f in
    wrote_more P Q c.args.range.now c.loop-start.start-iterator c.next.new.self (c.in-Some.start.now, c.in-Some.end.now) c.in-Some.ensures.steps
    (λ text was flush. let so_far = was flush in has_written_styled_append _ _ _ _ _ _ so_far (c.in_ok-write_segment.ensures so_far.flush refl)) c.loop-start.invariant
