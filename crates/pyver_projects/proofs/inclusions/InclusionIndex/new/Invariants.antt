use Rattle.std.proofs.Common.{◌≡◌, List, [], ℕ, bytes_eq, map, take}
use Rattle.std.specs.HashMap.{get_by}
use Rattle.std.specs.List.{filter}
use Rattle.std.specs.Option.{option_map_or}
use Rattle.pyver_projects.specs.ProjectStrings.{Inclusion, inclusion_of}
use Rattle.pyver_projects.proofs.inclusions.InclusionIndex.new.Given as goal

abbrev pub invariant-loop-inclusion : goal.invariant-loop-inclusion
invariant-loop-inclusion l =
    (q : List ℕ) → map (λ i. inclusion_of i.now) (option_map_or (λ g. g.items) (get_by (λ k. bytes_eq q k.now) l.by_group) []) ≡ filter (λ (i : Inclusion). bytes_eq q i.group) (map inclusion_of (take l.inclusion-index l.inclusions))
