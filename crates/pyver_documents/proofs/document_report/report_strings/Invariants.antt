use Rattle.std.proofs.Common.{◌≡◌, ◌++◌, [], length, map}
use Rattle.std.specs.List.{flat_map}
use Rattle.std.specs.Vec.Iter.{into_iter_items}
use Rattle.pyver_documents.specs.Comparing.{invalid_string, left_out_string}
use Rattle.pyver_documents.specs.DocumentViews.{string_reading_of}
use Rattle.pyver_findings.specs.Views.{finding_of}
use Rattle.pyver_documents.proofs.document_report.report_strings.Given as goal

abbrev pub invariant-loop-string : goal.invariant-loop-string
invariant-loop-string l =
    (map finding_of l.report.findings.items ++ flat_map invalid_string (map string_reading_of (into_iter_items l.string-iterator)) ≡ flat_map invalid_string (map string_reading_of (into_iter_items l.initial.string-iterator)))
    × (l.report.left_out.items ++ flat_map left_out_string (map string_reading_of (into_iter_items l.string-iterator)) ≡ flat_map left_out_string (map string_reading_of (into_iter_items l.initial.string-iterator)))
    × (l.report.lines ≡ length (into_iter_items l.initial.string-iterator)) × (l.report.files ≡ 1)
    × (map finding_of l.report.ignored.items ≡ [])
