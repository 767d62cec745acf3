use Rattle.std.proofs.Common.{◌≡◌}
use Rattle.pep440_pick.specs.Allowed.{lists_of}
use Rattle.pep440_pick.specs.RequirementGrammar.{DerivesRequirement}
use Rattle.pep440_tool.specs.Lines.{LineDenotes, numbered_lines}
use Rattle.pep440_tool.specs.LinesLeft.{bytes_left, left}
use Rattle.pep440_tool.proofs.Runs.{Found}
use Rattle.pep440_tool.proofs.pick.parse_lists.Given as goal

abbrev pub invariant-loop-line : goal.invariant-loop-line
invariant-loop-line l = Found (LineDenotes DerivesRequirement) (numbered_lines l.input) (left l.lines) (λ found. l.lists.items ≡ lists_of l.name found)

abbrev pub decreases-loop-line : goal.decreases-loop-line
decreases-loop-line l = bytes_left l.lines
