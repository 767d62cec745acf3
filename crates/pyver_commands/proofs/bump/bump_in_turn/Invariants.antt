use Rattle.std.proofs.Common.{◌≡◌, false, length}
use Rattle.pyver_commands.specs.Bumps.{bump_from}
use Rattle.pyver_commands.proofs.bump.bump_in_turn.Given as goal

abbrev pub invariant-loop-left : goal.invariant-loop-left
invariant-loop-left l = bump_from false l.to l.parts l.version ≡ bump_from l.named l.to l.left l.bumped

abbrev pub decreases-loop-left : goal.decreases-loop-left
decreases-loop-left l = length l.left
