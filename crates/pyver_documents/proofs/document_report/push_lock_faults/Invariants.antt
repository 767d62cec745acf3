use Rattle.std.proofs.Common.{◌≡◌, ◌++◌, map}
use Rattle.std.specs.List.{flat_map}
use Rattle.std.specs.Vec.Iter.{into_iter_items}
use Rattle.pyver_findings.specs.Reports.{invalid_in}
use Rattle.pyver_findings.specs.Views.{finding_of, line_meaning_of}
use Rattle.pyver_documents.proofs.document_report.push_lock_faults.Given as goal

abbrev pub invariant-loop-fault : goal.invariant-loop-fault
invariant-loop-fault l =
    map finding_of l.findings.items ++ flat_map invalid_in (map line_meaning_of (into_iter_items l.fault-iterator))
    ≡ map finding_of l.initial.findings.items ++ flat_map invalid_in (map line_meaning_of (into_iter_items l.initial.fault-iterator))
