use Rattle.std.proofs.Common.{◌≡◌, drop, map}
use Rattle.std.specs.List.{list_any}
use Rattle.pyver_documents.specs.Comparing.{accepts_version}
use Rattle.pyver_documents.specs.DocumentViews.{locked_reading_of}
use Rattle.pyver_findings.specs.Views.{demand_of}
use Rattle.pyver_documents.proofs.lock_comparison.contains_any.Given as goal

abbrev pub invariant-loop-locked : goal.invariant-loop-locked
invariant-loop-locked l =
    list_any (λ y. accepts_version (demand_of l.demand).specifiers y.version) (map (λ y. locked_reading_of y.now) l.group)
    ≡ list_any (λ y. accepts_version (demand_of l.demand).specifiers y.version) (map (λ y. locked_reading_of y.now) (drop l.locked-index l.group))
