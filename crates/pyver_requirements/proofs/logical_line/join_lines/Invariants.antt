use Rattle.std.proofs.Common.{◌≡◌, ◌+◌, length}
use Rattle.std.specs.Option.{option_map_or}
use Rattle.pyver_requirements.proofs.Lines.{HasRoom, lines_left}
use Rattle.pyver_requirements.specs.LineKinds.{lines_with}
use Rattle.pyver_requirements.specs.LogicalLines.{joined_lines}
use Rattle.pyver_requirements.proofs.logical_line.join_lines.Given as goal

abbrev pub invariant-loop-rest : goal.invariant-loop-rest
invariant-loop-rest l = record {
  lines : lines_with l.joiner (lines_left l.rest) ≡ joined_lines l.text;
  room : HasRoom l.joiner.next l.rest;
}

abbrev pub decreases-loop-rest : goal.decreases-loop-rest
decreases-loop-rest l = option_map_or (λ r. length r.now + 1) l.rest 0
