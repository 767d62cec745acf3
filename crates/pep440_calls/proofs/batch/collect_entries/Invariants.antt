use Rattle.std.proofs.Common.{map, take}
use Rattle.pep440_calls.specs.Batches.{HasEntries}
use Rattle.pep440_calls.proofs.batch.collect_entries.Given as goal

abbrev pub invariant-loop-position : goal.invariant-loop-position
invariant-loop-position l = HasEntries 0 (map (λ k. k.now) (take l.position l.keys)) l.entries.items
