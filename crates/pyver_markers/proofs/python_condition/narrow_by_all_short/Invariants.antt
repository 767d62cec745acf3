use Rattle.std.proofs.Common.{length}
use Rattle.std.specs.Prelude.{map}
use Rattle.pyver_markers.proofs.ShortVersions.{NarrowsSoFar}
use Rattle.pyver_markers.specs.Extents.{condition_of}
use Rattle.pyver_markers.proofs.python_condition.narrow_by_all_short.Given as goal

abbrev pub invariant-loop-rest : goal.invariant-loop-rest
invariant-loop-rest l = NarrowsSoFar l.name (map condition_of l.conditions) (map condition_of l.rest) l.fn.set l.narrowed

abbrev pub decreases-loop-rest : goal.decreases-loop-rest
decreases-loop-rest l = length l.rest
