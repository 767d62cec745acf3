use Rattle.std.proofs.Common.{◌++◌, ◌∙◌, append_assoc, ap, refl, sym}
use Rattle.std.specs.List.{flat_map}
use Rattle.std.proofs.Output.{has_written_styled_append}
use Rattle.pep440_sets.specs.SetLines.{interval_line}
use Rattle.pep440_sets.proofs.set_lines.write_intervals.Goals as goal

pub loop-start-preserved : goal.loop-start-preserved
loop-start-preserved g c =
    let line = interval_line (c.in-Some.start.now, c.in-Some.end.now) in
    let so_far = c.loop-start.invariant in (
      so_far.0 ++ line,
      append_assoc so_far.0 line (flat_map interval_line c.next.new.self) ∙ ap (λ l. so_far.0 ++ l) (ap (flat_map interval_line) (sym c.in-Some.ensures.steps)) ∙ so_far.1,
      λ flush. let wrote = so_far.2 flush in has_written_styled_append _ _ _ _ _ _ wrote (c.in_ok-write_interval.ensures wrote.flush refl),
    )
