use Rattle.std.proofs.Common.{◌≡◌, ◌||◌, List, ℕ, bytes_eq, drop, map}
use Rattle.std.specs.List.{list_any}
use Rattle.pyver_projects.specs.ProjectStrings.{includes_by, IsFound, has_key, inclusions_of}
use Rattle.pyver_projects.proofs.inclusions.next_groups.Given as goal

abbrev pub invariant-loop-group : goal.invariant-loop-group
invariant-loop-group l = record {
  names : (q : List ℕ) → has_key l.names q || list_any (includes_by (λ n. list_any (bytes_eq n) (map (λ m. m.now) (drop l.group-index l.groups))) q) (inclusions_of l.index)
      ≡ has_key l.initial.names q || list_any (includes_by (λ n. list_any (bytes_eq n) (map (λ m. m.now) l.groups)) q) (inclusions_of l.index);
  found : IsFound (has_key l.initial.names) l.names l.found.items;
}
