use Rattle.std.proofs.Common.{◌≡◌, ◌++◌, drop, map}
use Rattle.std.specs.List.{flat_map}
use Rattle.pyver_documents.specs.Comparing.{unmet_extra}
use Rattle.pyver_documents.specs.DocumentViews.{excuses, extra_reading_of, index_parts, packages_of}
use Rattle.pyver_findings.specs.Views.{finding_of}
use Rattle.pyver_projects.specs.ProjectStrings.{has_key}
use Rattle.pyver_documents.proofs.extra_comparison.push_all_unmet_extras.Given as goal

abbrev pub invariant-loop-extra : goal.invariant-loop-extra
invariant-loop-extra l =
    map finding_of l.findings.items ++ flat_map (unmet_extra l.lock.kind (index_parts l.lock.packages) (excuses l.lock.projects.now) l.lock.near (has_key l.keys) (packages_of l.lock.packages)) (map extra_reading_of (drop l.extra-index l.extras))
    ≡ map finding_of l.initial.findings.items ++ flat_map (unmet_extra l.lock.kind (index_parts l.lock.packages) (excuses l.lock.projects.now) l.lock.near (has_key l.keys) (packages_of l.lock.packages)) (map extra_reading_of l.extras)
