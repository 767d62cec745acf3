use Rattle.std.proofs.Common.{◌≡◌, ◌++◌, drop, map}
use Rattle.std.specs.List.{flat_map}
use Rattle.pyver_documents.specs.DocumentViews.{string_reading_of}
use Rattle.pyver_documents.specs.Together.{demand_in_part}
use Rattle.pyver_findings.specs.Views.{demand_of}
use Rattle.pyver_projects.specs.ProjectStrings.{has_key, section_of}
use Rattle.pyver_documents.proofs.together.demands_of_part.Given as goal

abbrev pub invariant-loop-string : goal.invariant-loop-string
invariant-loop-string l =
    map demand_of l.demands.items ++ flat_map (demand_in_part l.project.together (map (λ n. n.items) l.project.overridden.now) (has_key l.names.groups) (has_key l.names.extras) (section_of l.names.part.now)) (map string_reading_of (drop l.string-index l.project.strings.now))
    ≡ flat_map (demand_in_part l.project.together (map (λ n. n.items) l.project.overridden.now) (has_key l.names.groups) (has_key l.names.extras) (section_of l.names.part.now)) (map string_reading_of l.project.strings.now)
