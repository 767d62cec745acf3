use Rattle.std.proofs.Common.{◌≡◌, ◌++◌, drop, map}
use Rattle.pyver_locks.proofs.known_environment.borrow_names.Given as goal

abbrev pub invariant-loop-name : goal.invariant-loop-name
invariant-loop-name l = map (λ n. n.now) l.borrowed.items ++ map (λ n. n.items) (drop l.name-index l.names) ≡ map (λ n. n.items) l.names
