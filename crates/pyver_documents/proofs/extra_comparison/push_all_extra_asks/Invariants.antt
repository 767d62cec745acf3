use Rattle.std.proofs.Common.{◌≡◌, ◌++◌, drop, map}
use Rattle.std.specs.List.{flat_map}
use Rattle.pyver_documents.specs.Comparing.{extra_asks}
use Rattle.pyver_documents.specs.DocumentViews.{extra_reading_of}
use Rattle.pyver_projects.specs.ProjectStrings.{inclusion_of}
use Rattle.pyver_documents.proofs.extra_comparison.push_all_extra_asks.Given as goal

abbrev pub invariant-loop-extra : goal.invariant-loop-extra
invariant-loop-extra l =
    map inclusion_of l.asks.items ++ flat_map extra_asks (map extra_reading_of (drop l.extra-index l.extras)) ≡ map inclusion_of l.initial.asks.items ++ flat_map extra_asks (map extra_reading_of l.extras)
