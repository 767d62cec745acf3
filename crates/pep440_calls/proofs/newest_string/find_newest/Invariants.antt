use Rattle.std.proofs.Common.{IfSome, map, take}
use Rattle.pep440_pick.specs.Newest.{preference, Greatest}
use Rattle.pep440_calls.specs.CallerBytes.{BytesDenote}
use Rattle.pep440_calls.specs.Batches.{IsContainedString}
use Rattle.pep440_calls.proofs.newest_string.find_newest.Given as goal

abbrev pub invariant-loop-position : goal.invariant-loop-position
invariant-loop-position l = Greatest (IsContainedString l.list) (preference l.takes) (map (λ t. t.now) (take l.position l.texts)) l.newest × IfSome l.newest (λ p. BytesDenote l.best p.1)
