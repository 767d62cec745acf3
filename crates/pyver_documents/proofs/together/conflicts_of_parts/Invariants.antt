use Rattle.std.proofs.Common.{[], drop, map}
use Rattle.pyver_documents.specs.DocumentViews.{string_reading_of}
use Rattle.pyver_documents.specs.Together.{FindsOfPart}
use Rattle.pyver_findings.proofs.MarkedConflicts.{Continues}
use Rattle.pyver_findings.specs.MarkedConflicts.{FindsOfEach}
use Rattle.pyver_findings.specs.Views.{AddsFound}
use Rattle.pyver_projects.specs.ProjectStrings.{section_of}
use Rattle.pyver_documents.proofs.together.conflicts_of_parts.Given as goal

abbrev pub invariant-loop-part : goal.invariant-loop-part
invariant-loop-part l =
    let found = FindsOfEach (FindsOfPart l.together (map (λ n. n.items) l.overridden) (map string_reading_of l.strings)) in
    AddsFound (Continues (found (map section_of (drop l.part-index l.parts))) (found (map section_of l.parts))) [] l.findings.items l.initial.left_out.items l.left_out.items
