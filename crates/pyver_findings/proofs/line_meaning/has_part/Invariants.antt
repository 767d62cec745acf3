use Rattle.std.proofs.Common.{◌≡◌, length}
use Rattle.pyver_findings.specs.LineMeanings.{has_part}
use Rattle.pyver_findings.proofs.line_meaning.has_part.Given as goal

abbrev pub invariant-loop-rest : goal.invariant-loop-rest
invariant-loop-rest l = has_part l.part l.text ≡ has_part l.part l.rest

abbrev pub decreases-loop-rest : goal.decreases-loop-rest
decreases-loop-rest l = length l.rest
