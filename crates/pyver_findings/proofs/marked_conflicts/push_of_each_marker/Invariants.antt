use Rattle.std.proofs.Common.{◌≡◌, List, [], ℕ, bytes_eq, drop, map, take, if◌then◌else◌}
use Rattle.std.specs.HashMap.{get_by}
use Rattle.std.specs.List.{filter, list_any}
use Rattle.std.specs.Option.{option_map_or}
use Rattle.pyver_findings.proofs.MarkedConflicts.{Continues, of_marker_of}
use Rattle.pyver_findings.specs.Conflicts.{first_mentions, has_marker, has_same_marker}
use Rattle.pyver_findings.specs.MarkedConflicts.{FindsOfEach}
use Rattle.pyver_findings.specs.Views.{AddsFound, demand_of}
use Rattle.pyver_markers.specs.Extents.{domain_of}
use Rattle.pyver_findings.proofs.marked_conflicts.push_of_each_marker.Given as goal

abbrev pub invariant-loop-line : goal.invariant-loop-line
invariant-loop-line l =
    let found = FindsOfEach (of_marker_of (domain_of l.domain) (map (λ x. demand_of x.now) l.lines)) in
    AddsFound (Continues (found (first_mentions has_same_marker (map (λ x. demand_of x.now) (take l.line-index l.lines)) (map (λ x. demand_of x.now) (drop l.line-index l.lines)))) (found (first_mentions has_same_marker [] (map (λ x. demand_of x.now) l.lines))))
    l.initial.findings.items l.findings.items l.initial.left_out.items l.left_out.items
    × ((q : List ℕ) → map (λ x. demand_of x.now) (option_map_or (λ g. g.items) (get_by (λ k. bytes_eq q k.now) l.groups) [])
    ≡ (if list_any (has_marker q) (map (λ x. demand_of x.now) (take l.line-index l.lines)) then [] else filter (has_marker q) (map (λ x. demand_of x.now) l.lines)))
