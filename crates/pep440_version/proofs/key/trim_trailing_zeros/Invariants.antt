use Rattle.std.proofs.Common.{◌≡◌, ◌≤◌, length, take}
use Rattle.pep440_version.specs.Key.Trim.{trim}
use Rattle.pep440_version.proofs.key.trim_trailing_zeros.Given as goal

abbrev pub invariant-loop-end : goal.invariant-loop-end
invariant-loop-end l = (l.end ≤ length l.numbers) × (trim (take l.end l.numbers) ≡ trim l.numbers)

abbrev pub decreases-loop-end : goal.decreases-loop-end
decreases-loop-end l = l.end
