use Rattle.std.proofs.Common.{◌≡◌, length}
use Rattle.std.specs.Prelude.{bytes_eq}
use Rattle.pep440_pick.specs.Names.{normal}
use Rattle.pep440_pick.proofs.name.same_name.Given as goal

abbrev pub invariant-loop-byte : goal.invariant-loop-byte
invariant-loop-byte l = bytes_eq (normal l.fn.one) (normal l.fn.other) ≡ bytes_eq (normal l.left) (normal l.right)

abbrev pub decreases-loop-byte : goal.decreases-loop-byte
decreases-loop-byte l = length l.left
