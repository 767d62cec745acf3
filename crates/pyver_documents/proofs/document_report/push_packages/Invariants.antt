use Rattle.std.proofs.Common.{◌≡◌, ◌++◌, map}
use Rattle.std.specs.List.{flat_map}
use Rattle.std.specs.Vec.Iter.{into_iter_items}
use Rattle.pyver_documents.specs.Comparing.{invalid_package}
use Rattle.pyver_documents.specs.DocumentViews.{locked_reading_of}
use Rattle.pyver_findings.specs.Views.{finding_of}
use Rattle.pyver_documents.proofs.document_report.push_packages.Given as goal

abbrev pub invariant-loop-locked : goal.invariant-loop-locked
invariant-loop-locked l =
    map finding_of l.findings.items ++ flat_map invalid_package (map locked_reading_of (into_iter_items l.locked-iterator))
    ≡ map finding_of l.initial.findings.items ++ flat_map invalid_package (map locked_reading_of (into_iter_items l.initial.locked-iterator))
