use Rattle.std.proofs.Common.{◌≡◌, ◌++◌, codes, drop, map, string_bytes}
use Rattle.std.specs.List.{flat_map}
use Rattle.pyver_projects.specs.RequirementStrings.{python_comparison}
use Rattle.pyver_projects.proofs.poetry_marker.push_more_pythons.Given as goal

abbrev pub invariant-loop-specifier : goal.invariant-loop-specifier
invariant-loop-specifier l =
    string_bytes l.marker ++ flat_map (λ s. codes " and " ++ s) (map python_comparison (map (λ s. s.now) (drop l.specifier-index l.specifiers)))
    ≡ string_bytes l.initial.marker ++ flat_map (λ s. codes " and " ++ s) (map python_comparison (map (λ s. s.now) l.specifiers))
