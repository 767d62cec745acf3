use Rattle.pep440_version.proofs.Reading.NormalParts.{Digits}
use Rattle.pep440_version.specs.Record.{Fits}
use Rattle.pep440_compiled.proofs.stack_form.split_number.Given as goal

abbrev pub invariant-loop-i : goal.invariant-loop-i
invariant-loop-i l = Fits l.number × Digits l.text l.rest l.i l.number
