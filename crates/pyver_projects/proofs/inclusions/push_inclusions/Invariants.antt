use Rattle.std.proofs.Common.{◌≡◌, ◌||◌, Bool, List, ℕ, bytes_eq, drop, map}
use Rattle.std.specs.List.{list_any}
use Rattle.pyver_projects.specs.ProjectStrings.{IsFound, has_key, inclusion_of}
use Rattle.pyver_projects.proofs.inclusions.push_inclusions.Given as goal

abbrev pub invariant-loop-inclusion : goal.invariant-loop-inclusion
invariant-loop-inclusion l = record {
  names : (q : List ℕ) → has_key l.names q || list_any (λ i. bytes_eq q i.included) (map (λ i. inclusion_of i.now) (drop l.inclusion-index l.inclusions)) ≡ has_key l.initial.names q || list_any (λ i. bytes_eq q i.included) (map (λ i. inclusion_of i.now) l.inclusions);
  found : (before : List ℕ → Bool) → IsFound before l.initial.names l.initial.found.items → IsFound before l.names l.found.items;
}
