use Rattle.std.proofs.Common.{◌≡◌, ◌++◌, drop, map, option_to_list, string_bytes}
use Rattle.std.specs.List.{flat_map}
use Rattle.toml.specs.Data.{as_str}
use Rattle.toml.specs.View.{view}
use Rattle.pyver_projects.proofs.table.listed_strings.Given as goal

abbrev pub invariant-loop-item : goal.invariant-loop-item
invariant-loop-item l =
    map string_bytes l.strings.items ++ flat_map (λ d. option_to_list (as_str d)) (map view (drop l.item-index l.item-items)) ≡ flat_map (λ d. option_to_list (as_str d)) (map view l.item-items)
