use Rattle.std.proofs.Common.{◌≡◌, ◌++◌, drop, map}
use Rattle.std.specs.List.{flat_map}
use Rattle.pyver_findings.specs.Reports.{left_out_in}
use Rattle.pyver_findings.specs.Views.{line_meaning_of}
use Rattle.pyver_documents.proofs.document_report.push_all_left_out.Given as goal

abbrev pub invariant-loop-requirement : goal.invariant-loop-requirement
invariant-loop-requirement l =
    l.causes.items ++ flat_map left_out_in (map line_meaning_of (drop l.requirement-index l.requirements)) ≡ l.initial.causes.items ++ flat_map left_out_in (map line_meaning_of l.requirements)
