use Rattle.std.proofs.Common.{◌≡◌, ◌+◌, drop, map}
use Rattle.pep440_version.specs.Changes.{apply_edits, edit}
use Rattle.pep440_version.proofs.version.Version.with_changes.Given as goal

abbrev pub invariant-loop-i : goal.invariant-loop-i
invariant-loop-i l = apply_edits (l.i + 1) l.version (map edit (drop l.i l.changes)) ≡ apply_edits 1 l.fn.self (map edit l.changes)
