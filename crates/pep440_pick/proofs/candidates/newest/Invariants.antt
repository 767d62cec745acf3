use Rattle.std.proofs.Common.{take}
use Rattle.pep440_version.specs.Key.{record_cmp}
use Rattle.pep440_pick.specs.Newest.{Greatest, IsContained, positioned}
use Rattle.pep440_pick.proofs.candidates.newest.Given as goal

abbrev pub invariant-loop-position : goal.invariant-loop-position
invariant-loop-position l = Greatest (IsContained l.lists) record_cmp (take l.position l.candidates) (positioned l.newest)
