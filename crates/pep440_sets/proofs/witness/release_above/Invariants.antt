use Rattle.std.proofs.Common.{◌≡◌, ◌++◌, ◌-◌, drop}
use Rattle.pep440_sets.specs.Witnesses.{release_above}
use Rattle.pep440_sets.proofs.witness.release_above.Given as goal

abbrev pub invariant-loop-place : goal.invariant-loop-place
invariant-loop-place l = l.numbers.items ++ release_above (l.depth - l.place) (drop l.place l.release) ≡ release_above l.depth l.release
