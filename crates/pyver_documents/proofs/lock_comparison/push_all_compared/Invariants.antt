use Rattle.std.proofs.Common.{◌≡◌, ◌++◌, drop, map}
use Rattle.std.specs.Prelude.{option_map, option_to_list}
use Rattle.std.specs.List.{flat_map}
use Rattle.pyver_documents.specs.Comparing.{compared}
use Rattle.pyver_documents.specs.DocumentViews.{excuses, index_parts, packages_of, string_reading_of}
use Rattle.pyver_findings.specs.Views.{finding_of}
use Rattle.pyver_documents.proofs.lock_comparison.push_all_compared.Given as goal

abbrev pub invariant-loop-string : goal.invariant-loop-string
invariant-loop-string l =
    map finding_of l.findings.items ++ flat_map (compared l.lock.kind (index_parts l.lock.packages) (option_to_list (option_map (λ n. n.items) l.lock.project.now)) (excuses l.lock.projects.now) l.lock.near (packages_of l.lock.packages)) (map string_reading_of (drop l.string-index l.strings))
    ≡ map finding_of l.initial.findings.items ++ flat_map (compared l.lock.kind (index_parts l.lock.packages) (option_to_list (option_map (λ n. n.items) l.lock.project.now)) (excuses l.lock.projects.now) l.lock.near (packages_of l.lock.packages)) (map string_reading_of l.strings)
