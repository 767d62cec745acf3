use Rattle.std.proofs.Common.{◌≡◌, ◌++◌, map}
use Rattle.std.specs.Prelude.{option_map, option_to_list}
use Rattle.std.specs.Vec.Iter.{into_iter_items}
use Rattle.pyver_projects.specs.ProjectTables.{own_string}
use Rattle.pyver_projects.specs.ProjectStrings.{project_string_of}
use Rattle.pyver_projects.proofs.own_extras.own_strings.Given as goal

abbrev pub invariant-loop-string : goal.invariant-loop-string
invariant-loop-string l =
    map project_string_of l.found.items ++ map (own_string (option_to_list (option_map (λ n. n.items) l.name))) (map project_string_of (into_iter_items l.string-iterator))
    ≡ map (own_string (option_to_list (option_map (λ n. n.items) l.name))) (map project_string_of (into_iter_items l.initial.string-iterator))
