use Rattle.std.proofs.Common.{◌≡◌, ◌++◌, drop, map}
use Rattle.std.specs.List.{flat_map}
use Rattle.pyver_documents.specs.Comparing.{asked_in}
use Rattle.pyver_documents.specs.DocumentViews.{excuses, index_parts, string_reading_of}
use Rattle.pyver_projects.specs.ProjectStrings.{inclusion_of}
use Rattle.pyver_documents.proofs.extra_comparison.push_all_string_asks.Given as goal

abbrev pub invariant-loop-string : goal.invariant-loop-string
invariant-loop-string l =
    map inclusion_of l.asks.items ++ flat_map (asked_in l.lock.kind (index_parts l.lock.packages) (excuses l.lock.projects.now) l.lock.near) (map string_reading_of (drop l.string-index l.strings))
    ≡ map inclusion_of l.initial.asks.items ++ flat_map (asked_in l.lock.kind (index_parts l.lock.packages) (excuses l.lock.projects.now) l.lock.near) (map string_reading_of l.strings)
