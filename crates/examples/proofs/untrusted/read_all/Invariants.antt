use Rattle.std.proofs.Common.{take}
use Rattle.std.specs.List.{AllZip}
use Rattle.examples.specs.Versions.{IsVerdict}
use Rattle.examples.proofs.untrusted.read_all.Given as goal

abbrev pub invariant-loop-text : goal.invariant-loop-text
invariant-loop-text l = AllZip (λ text. IsVerdict text.now) (take l.text-index l.texts) l.verdicts.items
