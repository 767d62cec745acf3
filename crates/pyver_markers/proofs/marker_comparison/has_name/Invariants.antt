use Rattle.std.proofs.Common.{◌≡◌, length}
use Rattle.std.specs.List.{list_any}
use Rattle.std.specs.Prelude.{bytes_eq, map}
use Rattle.pep440_pick.specs.Names.{normal}
use Rattle.pyver_markers.proofs.marker_comparison.has_name.Given as goal

abbrev pub invariant-loop-rest : goal.invariant-loop-rest
invariant-loop-rest l = list_any (λ n. bytes_eq (normal n) (normal l.fn.name)) (map (λ n. n.now) l.rest) ≡ list_any (λ n. bytes_eq (normal n) (normal l.fn.name)) (map (λ n. n.now) l.names)

abbrev pub decreases-loop-rest : goal.decreases-loop-rest
decreases-loop-rest l = length l.rest
