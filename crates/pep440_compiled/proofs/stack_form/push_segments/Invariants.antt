use Rattle.std.proofs.Common.{◌≤◌, List, length, ℕ}
use Rattle.pep440_compiled.proofs.WrittenForm.{AreWritten, AreLeft}
use Rattle.pep440_compiled.proofs.stack_form.push_segments.Given as goal

abbrev pub invariant-loop-after : goal.invariant-loop-after
invariant-loop-after l = AreWritten l.text l.rest l.fn.form.items l.form.items
    × ((whole : List ℕ) → length whole ≤ 64 → AreLeft l.text l.fn.form.items whole → AreLeft l.rest l.form.items whole)

abbrev pub decreases-loop-after : goal.decreases-loop-after
decreases-loop-after l = length l.rest
