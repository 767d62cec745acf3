use Rattle.std.proofs.Common.{◌≡◌, ◌+◌, ◌≤◌, length}
use Rattle.std.specs.Option.{option_map_or}
use Rattle.pep440_tool.specs.LinesLeft.{bytes_left, left, left_of}
use Rattle.pep440_tool.proofs.Runs.{HasRoom}
use Rattle.pep440_tool.proofs.input_lines.Lines.next_line.Given as goal

abbrev pub invariant-loop-rest : goal.invariant-loop-rest
invariant-loop-rest l = record {
  same : left l.fn.self ≡ left_of l.read l.rest;
  room : HasRoom l.read l.rest;
  fewer : option_map_or (λ r. length r.now + 1) l.rest 0 ≤ bytes_left l.fn.self;
}

abbrev pub decreases-loop-rest : goal.decreases-loop-rest
decreases-loop-rest l = option_map_or (λ r. length r.now + 1) l.rest 0
