use Rattle.std.proofs.Common.{◌≡◌, ◌++◌, ◌≤◌, ◌+◌, drop, map}
use Rattle.pyver_projects.specs.ProjectStrings.{document_keys, keys_from, key_line_of}
use Rattle.pyver_projects.proofs.place.document_keys.Given as goal

abbrev pub invariant-loop-at : goal.invariant-loop-at
invariant-loop-at l = (map key_line_of l.keys.items ++ keys_from l.table.items l.starts l.number (drop l.at l.text) ≡ document_keys l.text) × (l.number ≤ l.at + 1)
