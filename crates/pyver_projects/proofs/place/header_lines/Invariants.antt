use Rattle.std.proofs.Common.{◌≡◌, ◌++◌, ◌≤◌, ◌+◌, drop}
use Rattle.pyver_projects.specs.ProjectStrings.{header_lines, headers_from}
use Rattle.pyver_projects.proofs.place.header_lines.Given as goal

abbrev pub invariant-loop-at : goal.invariant-loop-at
invariant-loop-at l = (l.lines.items ++ headers_from l.header l.starts l.number (drop l.at l.text) ≡ header_lines l.header l.text) × (l.number ≤ l.at + 1)
