use Rattle.std.proofs.Common.{◌≡◌, length}
use Rattle.std.specs.List.{list_all}
use Rattle.std.specs.Prelude.{map}
use Rattle.pyver_markers.specs.Extents.{assignment_of, is_writable}
use Rattle.pyver_markers.proofs.found_environment.are_writable.Given as goal

abbrev pub invariant-loop-rest : goal.invariant-loop-rest
invariant-loop-rest l = list_all (λ v. is_writable v.text) (map assignment_of l.rest) ≡ list_all (λ v. is_writable v.text) (map assignment_of l.found)

abbrev pub decreases-loop-rest : goal.decreases-loop-rest
decreases-loop-rest l = length l.rest
