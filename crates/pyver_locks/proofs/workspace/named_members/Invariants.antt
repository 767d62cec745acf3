use Rattle.std.proofs.Common.{◌≡◌, ◌++◌, drop, map}
use Rattle.std.specs.List.{flat_map}
use Rattle.toml.specs.View.{view}
use Rattle.pyver_locks.specs.Locks.{member_from}
use Rattle.pyver_locks.proofs.workspace.named_members.Given as goal

abbrev pub invariant-loop-item : goal.invariant-loop-item
invariant-loop-item l =
    let each = member_from (map (λ n. n.items) l.names) in
    map (λ f. f.items) l.folders.items ++ flat_map each (map view (drop l.item-index l.packages)) ≡ flat_map each (map view l.packages)
