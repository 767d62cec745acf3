use Rattle.std.proofs.Common.{◌≡◌, [], map}
use Rattle.std.specs.Vec.Iter.{into_iter_items}
use Rattle.pyver_documents.specs.Together.{same_finding, with_new}
use Rattle.pyver_findings.specs.Views.{finding_of}
use Rattle.pyver_documents.proofs.together.each_once.Given as goal

abbrev pub invariant-loop-finding : goal.invariant-loop-finding
invariant-loop-finding l = with_new same_finding (map finding_of l.found.items) (map finding_of (into_iter_items l.finding-iterator)) ≡ with_new same_finding [] (map finding_of (into_iter_items l.initial.finding-iterator))
