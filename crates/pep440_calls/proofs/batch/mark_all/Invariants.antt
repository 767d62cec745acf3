use Rattle.std.proofs.Common.{map, take}
use Rattle.std.specs.List.{AllZip}
use Rattle.pep440_calls.specs.Batches.{IsMark}
use Rattle.pep440_calls.proofs.batch.mark_all.Given as goal

abbrev pub invariant-loop-text : goal.invariant-loop-text
invariant-loop-text l = AllZip (IsMark l.list) (map (λ t. t.now) (take l.text-index l.texts)) l.found.items
