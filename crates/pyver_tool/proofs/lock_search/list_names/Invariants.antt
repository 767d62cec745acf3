use Rattle.std.proofs.Common.{◌≡◌, ◌≤◌, ◌+◌, ◌++◌, drop, length, map, take}
use Rattle.std.specs.List.{flat_map}
use Rattle.pyver_tool.specs.RequirementFiles.{below, name_between, sought_names}
use Rattle.pyver_tool.proofs.lock_search.list_names.Given as goal

abbrev pub invariant-loop-end : goal.invariant-loop-end
invariant-loop-end l =
    (map (λ name. name.items) l.names.items ++ flat_map (λ n. name_between l.lock (take n l.path) (drop n l.path)) (below l.end) ≡ sought_names l.path l.lock) × (l.end ≤ length l.path + 1)

abbrev pub decreases-loop-end : goal.decreases-loop-end
decreases-loop-end l = l.end
