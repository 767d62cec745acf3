use Rattle.std.proofs.Common.{◌≡◌, bytes_eq, drop, map}
use Rattle.std.specs.List.{list_any}
use Rattle.pyver_findings.proofs.constraints.is_one_of.Given as goal

abbrev pub invariant-loop-other : goal.invariant-loop-other
invariant-loop-other l = list_any (bytes_eq l.name) (map (λ n. n.items) l.names) ≡ list_any (bytes_eq l.name) (map (λ n. n.items) (drop l.other-index l.names))
