use Rattle.std.proofs.Common.{map, take}
use Rattle.pep440_calls.specs.Statuses.{Joins}
use Rattle.pep440_calls.proofs.set_calls.join_keys.Given as goal

abbrev pub invariant-loop-key : goal.invariant-loop-key
invariant-loop-key l = Joins (map (λ k. k.now) (take l.key-index l.keys)) l.found.bytes.items l.found.ends.items
