use Rattle.std.proofs.Common.{◌≡◌, ◌++◌, drop, map, option_to_list}
use Rattle.std.specs.List.{flat_map}
use Rattle.toml.specs.Data.{as_str}
use Rattle.toml.specs.View.{view}
use Rattle.pyver_locks.proofs.lock_faults.listed_texts.Given as goal

abbrev pub invariant-loop-item : goal.invariant-loop-item
invariant-loop-item l =
    map (λ t. t.items) l.texts.items ++ flat_map (λ d. option_to_list (as_str d)) (map view (drop l.item-index l.list)) ≡ flat_map (λ d. option_to_list (as_str d)) (map view l.list)
