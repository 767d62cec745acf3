use Rattle.std.proofs.Common.{◌≡◌, ◌++◌, drop, map}
use Rattle.std.specs.List.{flat_map}
use Rattle.pyver_documents.specs.Comparing.{found_in_pair}
use Rattle.pyver_documents.specs.DocumentViews.{excuses, read_pair}
use Rattle.pyver_findings.specs.Views.{finding_of}
use Rattle.pyver_documents.proofs.lock_comparison.push_beside_all.Given as goal

abbrev pub invariant-loop-other : goal.invariant-loop-other
invariant-loop-other l =
    let each = found_in_pair (excuses l.projects) (read_pair l.read) in
    map finding_of l.findings.items ++ flat_map each (map read_pair (drop l.other-index l.others)) ≡ map finding_of l.initial.findings.items ++ flat_map each (map read_pair l.others)
