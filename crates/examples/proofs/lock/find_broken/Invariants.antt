use Rattle.std.proofs.Common.{◌≡◌, ◌++◌, drop, map, string_bytes}
use Rattle.examples.specs.Lock.{broken_names}
use Rattle.examples.proofs.lock.find_broken.Given as goal

abbrev pub invariant-loop-locked : goal.invariant-loop-locked
invariant-loop-locked l = map string_bytes l.names.items ++ broken_names (drop l.locked-index l.lock) ≡ broken_names l.lock
