use Rattle.std.proofs.Common.{◌≡◌, ◌++◌, length}
use Rattle.pep440_pick.specs.Names.{normal}
use Rattle.pep440_pick.proofs.name.normalize_bytes.Given as goal

abbrev pub invariant-loop-byte : goal.invariant-loop-byte
invariant-loop-byte l = l.text.items ++ normal l.rest ≡ normal l.name

abbrev pub decreases-loop-byte : goal.decreases-loop-byte
decreases-loop-byte l = length l.rest
