use Rattle.std.proofs.Common.{◌≡◌, ◌++◌, drop, map}
use Rattle.std.specs.List.{flat_map}
use Rattle.pyver_documents.specs.Comparing.{unmet}
use Rattle.pyver_documents.specs.DocumentViews.{excuses, index_parts, packages_of}
use Rattle.pyver_findings.specs.Views.{finding_of, line_meaning_of}
use Rattle.pyver_documents.proofs.lock_comparison.push_unmet_in_index.Given as goal

abbrev pub invariant-loop-requirement : goal.invariant-loop-requirement
invariant-loop-requirement l =
    map finding_of l.findings.items ++ flat_map (unmet (excuses l.projects) (index_parts l.packages) (packages_of l.packages)) (map line_meaning_of (drop l.requirement-index l.requirements))
    ≡ map finding_of l.initial.findings.items ++ flat_map (unmet (excuses l.projects) (index_parts l.packages) (packages_of l.packages)) (map line_meaning_of l.requirements)
