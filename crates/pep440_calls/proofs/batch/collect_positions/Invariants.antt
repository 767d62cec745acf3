use Rattle.std.proofs.Common.{◌≡◌, map, take}
use Rattle.pep440_calls.proofs.batch.collect_positions.Given as goal

abbrev pub invariant-loop-entry : goal.invariant-loop-entry
invariant-loop-entry l = l.found.items ≡ map (λ e. e.position) (take l.entry-index l.entries)
