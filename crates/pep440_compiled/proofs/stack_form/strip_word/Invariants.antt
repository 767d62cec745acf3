use Rattle.std.proofs.Common.{◌≡◌, take}
use Rattle.pep440_compiled.proofs.stack_form.strip_word.Given as goal

abbrev pub invariant-loop-i : goal.invariant-loop-i
invariant-loop-i l = take l.i l.start ≡ take l.i l.word
