use Rattle.std.proofs.Common.{◌≡◌, length}
use Rattle.pyver_markers.specs.Extents.{found_environment}
use Rattle.pyver_markers.proofs.found_environment.find_by_name.Given as goal

abbrev pub invariant-loop-rest : goal.invariant-loop-rest
invariant-loop-rest l = found_environment l.rest l.name ≡ found_environment l.found l.name

abbrev pub decreases-loop-rest : goal.decreases-loop-rest
decreases-loop-rest l = length l.rest
