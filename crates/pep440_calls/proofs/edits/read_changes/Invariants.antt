use Rattle.std.proofs.Common.{map, take}
use Rattle.std.specs.List.{AllZip}
use Rattle.pep440_version.specs.Changes.{edit}
use Rattle.pep440_calls.specs.CallResults.{BytesDenoteChange}
use Rattle.pep440_calls.proofs.edits.read_changes.Given as goal

abbrev pub invariant-loop-position : goal.invariant-loop-position
invariant-loop-position l = AllZip BytesDenoteChange (map (λ t. t.now) (take l.position l.words)) (map edit l.changes.items)
