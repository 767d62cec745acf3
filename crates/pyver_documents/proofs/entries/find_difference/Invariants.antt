use Rattle.std.proofs.Common.{◌≡◌, drop}
use Rattle.std.specs.List.{find}
use Rattle.pyver_documents.specs.Comparing.{is_in_one}
use Rattle.pyver_documents.proofs.entries.find_difference.Given as goal

abbrev pub invariant-loop-minor : goal.invariant-loop-minor
invariant-loop-minor l = find (is_in_one l.own l.locked) l.minors ≡ find (is_in_one l.own l.locked) (drop l.minor-index l.minors)
