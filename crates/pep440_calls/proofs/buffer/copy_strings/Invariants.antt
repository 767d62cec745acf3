use Rattle.std.proofs.Common.{◌≡◌, ◌++◌, List, length, map, take, drop, ℕ}
use Rattle.pep440_calls.proofs.buffer.copy_strings.Given as goal
use Rattle.pep440_calls.specs.Statuses.{Joins}

abbrev pub invariant-loop-position : goal.invariant-loop-position
invariant-loop-position l = (bytes places : List ℕ) × Joins (map (λ s. s.now) (take l.position l.strings)) bytes places
    × (l.start ≡ length bytes) × (length places ≡ l.position)
    × (l.out ≡ bytes ++ drop (length bytes) l.initial.out) × (l.ends ≡ places ++ drop (length places) l.initial.ends)
