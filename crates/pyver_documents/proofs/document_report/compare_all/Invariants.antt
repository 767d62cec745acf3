use Rattle.std.proofs.Common.{◌≡◌, ◌++◌, drop, map}
use Rattle.std.specs.List.{flat_map}
use Rattle.pyver_documents.specs.Comparing.{beside_all}
use Rattle.pyver_documents.specs.DocumentViews.{excuses, read_pair}
use Rattle.pyver_findings.specs.Views.{finding_of}
use Rattle.pyver_documents.proofs.document_report.compare_all.Given as goal

abbrev pub invariant-loop-document : goal.invariant-loop-document
invariant-loop-document l =
    let each = beside_all (excuses l.projects) (map read_pair l.read) in
    map finding_of l.findings.items ++ flat_map each (map read_pair (drop l.document-index l.read)) ≡ flat_map each (map read_pair l.read)
