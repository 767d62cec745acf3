use Rattle.std.proofs.Common.{◌≡◌, List, ℕ, drop, map, nat_cmp}
use Rattle.std.specs.BTreeMap.{get_by}
use Rattle.std.specs.Cmp.Lexicographic.{slice_cmp}
use Rattle.pyver_projects.specs.ProjectStrings.{first_key, key_line_of}
use Rattle.pyver_projects.proofs.place.number_keys.Given as goal

abbrev pub invariant-loop-at : goal.invariant-loop-at
invariant-loop-at l = (path : List ℕ) → get_by (λ k. slice_cmp nat_cmp path k.now) l.numbers ≡ first_key path (map key_line_of (drop l.at l.keys))
