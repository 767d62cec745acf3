use Rattle.std.proofs.Common.{◌≡◌, length}
use Rattle.pyver_requirements.specs.Options.{closes}
use Rattle.pyver_requirements.specs.declared.option_value.ShellState.TheVariants.{Plain}
use Rattle.pyver_requirements.proofs.option_value.closes.Given as goal

abbrev pub invariant-loop-rest : goal.invariant-loop-rest
invariant-loop-rest l = closes l.state l.rest ≡ closes Plain l.text

abbrev pub decreases-loop-rest : goal.decreases-loop-rest
decreases-loop-rest l = length l.rest
