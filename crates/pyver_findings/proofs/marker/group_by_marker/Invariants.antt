use Rattle.std.proofs.Common.{◌≡◌, List, [], ℕ, bytes_eq, map, take}
use Rattle.std.specs.HashMap.{get_by}
use Rattle.std.specs.List.{filter}
use Rattle.std.specs.Option.{option_map_or}
use Rattle.pyver_findings.specs.Conflicts.{has_marker}
use Rattle.pyver_findings.specs.Views.{demand_of}
use Rattle.pyver_findings.proofs.marker.group_by_marker.Given as goal

abbrev pub invariant-loop-line : goal.invariant-loop-line
invariant-loop-line l =
    (q : List ℕ) → map (λ x. demand_of x.now) (option_map_or (λ g. g.items) (get_by (λ k. bytes_eq q k.now) l.groups) []) ≡ filter (has_marker q) (map (λ x. demand_of x.now) (take l.line-index l.lines))
