use Rattle.std.proofs.Common.{◌≡◌}
use Rattle.std.specs.List.{filter}
use Rattle.pep440_rs.specs.Matching.{list_matches}
use Rattle.pep440_version.specs.Grammar.{Derives}
use Rattle.pep440_tool.specs.Lines.{LineDenotes, numbered_lines}
use Rattle.pep440_tool.specs.LinesLeft.{bytes_left, left}
use Rattle.pep440_tool.proofs.Runs.{Found}
use Rattle.pep440_tool.proofs.filter_lines.parse_matches.Given as goal

abbrev pub invariant-loop-line : goal.invariant-loop-line
invariant-loop-line l = Found (LineDenotes Derives) (numbered_lines l.input) (left l.lines) (λ found. l.versions.items ≡ filter (list_matches l.list) found)

abbrev pub decreases-loop-line : goal.decreases-loop-line
decreases-loop-line l = bytes_left l.lines
