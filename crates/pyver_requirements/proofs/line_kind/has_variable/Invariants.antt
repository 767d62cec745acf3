use Rattle.std.proofs.Common.{◌≡◌, length}
use Rattle.pyver_requirements.specs.LineKinds.{has_variable}
use Rattle.pyver_requirements.proofs.line_kind.has_variable.Given as goal

abbrev pub invariant-loop-rest : goal.invariant-loop-rest
invariant-loop-rest l = has_variable l.text ≡ has_variable l.rest

abbrev pub decreases-loop-rest : goal.decreases-loop-rest
decreases-loop-rest l = length l.rest
