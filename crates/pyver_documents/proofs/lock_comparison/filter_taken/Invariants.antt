use Rattle.std.proofs.Common.{◌≡◌, ◌++◌, drop, map}
use Rattle.std.specs.List.{filter}
use Rattle.pyver_documents.specs.Comparing.{may_take}
use Rattle.pyver_documents.specs.DocumentViews.{locked_reading_of}
use Rattle.pyver_findings.specs.Views.{demand_of}
use Rattle.pyver_documents.proofs.lock_comparison.filter_taken.Given as goal

abbrev pub invariant-loop-locked : goal.invariant-loop-locked
invariant-loop-locked l =
    let kept = filter (may_take (demand_of l.demand).specifiers) in
    map (λ y. locked_reading_of y.now) l.taken.items ++ kept (map (λ y. locked_reading_of y.now) (drop l.locked-index l.group)) ≡ kept (map (λ y. locked_reading_of y.now) l.group)
