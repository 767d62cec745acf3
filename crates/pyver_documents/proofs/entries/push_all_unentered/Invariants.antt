use Rattle.std.proofs.Common.{◌≡◌, ◌++◌, drop, map}
use Rattle.std.specs.Prelude.{option_map, option_to_list}
use Rattle.std.specs.List.{flat_map}
use Rattle.pyver_documents.specs.Comparing.{unentered_in}
use Rattle.pyver_documents.specs.DocumentViews.{string_reading_of}
use Rattle.pyver_findings.specs.Views.{finding_of, line_meaning_of}
use Rattle.pyver_documents.proofs.entries.push_all_unentered.Given as goal

abbrev pub invariant-loop-string : goal.invariant-loop-string
invariant-loop-string l =
    map finding_of l.findings.items ++ flat_map (unentered_in (option_to_list (option_map (λ n. n.items) l.project)) (map line_meaning_of l.entries)) (map string_reading_of (drop l.string-index l.strings))
    ≡ map finding_of l.initial.findings.items ++ flat_map (unentered_in (option_to_list (option_map (λ n. n.items) l.project)) (map line_meaning_of l.entries)) (map string_reading_of l.strings)
