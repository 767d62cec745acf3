use Rattle.std.proofs.Common.{◌≡◌, ◌++◌, drop, map}
use Rattle.pyver_documents.specs.Meanings.{inclusions}
use Rattle.pyver_projects.specs.ProjectStrings.{ProjectString, inclusion_of, project_string_of}
use Rattle.pyver_documents.proofs.groups.string_inclusions.Given as goal

abbrev pub invariant-loop-string : goal.invariant-loop-string
invariant-loop-string l =
    map inclusion_of l.inclusions.items ++ inclusions (map (λ (s : ProjectString). s.section) (map project_string_of (drop l.string-index l.strings)))
    ≡ inclusions (map (λ (s : ProjectString). s.section) (map project_string_of l.strings))
