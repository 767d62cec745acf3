use Rattle.std.proofs.Common.{◌≡◌, ◌++◌, drop, map}
use Rattle.std.specs.List.{flat_map}
use Rattle.pyver_documents.specs.Comparing.{locked_line}
use Rattle.pyver_documents.specs.DocumentViews.{locked_reading_of}
use Rattle.pyver_findings.specs.Views.{file_line_of}
use Rattle.pyver_documents.proofs.lock_comparison.locked_lines.Given as goal

abbrev pub invariant-loop-locked : goal.invariant-loop-locked
invariant-loop-locked l =
    map file_line_of l.lines.items ++ flat_map locked_line (map (λ y. locked_reading_of y.now) (drop l.locked-index l.group))
    ≡ flat_map locked_line (map (λ y. locked_reading_of y.now) l.group)
