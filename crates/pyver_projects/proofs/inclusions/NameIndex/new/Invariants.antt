use Rattle.std.proofs.Common.{◌≡◌, List, ℕ, bytes_eq, count_by, map, take}
use Rattle.std.specs.HashMap.{get_by}
use Rattle.pyver_projects.specs.ProjectStrings.{is_repeated}
use Rattle.pyver_projects.proofs.inclusions.NameIndex.new.Given as goal

abbrev pub invariant-loop-name : goal.invariant-loop-name
invariant-loop-name l = (q : List ℕ) → get_by (λ k. bytes_eq q k.now) l.repeated ≡ is_repeated (count_by (bytes_eq q) (map (λ n. n.items) (take l.name-index l.names)))
