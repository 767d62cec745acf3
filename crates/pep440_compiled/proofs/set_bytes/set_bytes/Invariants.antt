use Rattle.std.proofs.Common.{◌≡◌, ◌++◌}
use Rattle.std.specs.List.{AllByRecursion}
use Rattle.pep440_compiled.proofs.set_bytes.set_bytes.Given as goal
use Rattle.pep440_compiled.specs.SetBytes.{IsSized, set_bytes}

-- what is written, and the keys of the intervals that are left, are those of all; if the keys of these fit in memory, so do all
abbrev pub invariant-loop-start : goal.invariant-loop-start
invariant-loop-start l = (l.bytes.items ++ set_bytes l.start-iterator ≡ set_bytes l.set) × (AllByRecursion IsSized l.start-iterator → AllByRecursion IsSized l.set)
