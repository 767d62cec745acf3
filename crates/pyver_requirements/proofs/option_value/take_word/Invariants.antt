use Rattle.std.proofs.Common.{◌≡◌, ◌++◌, take, drop}
use Rattle.pyver_requirements.specs.Options.{shell_word}
use Rattle.pyver_requirements.specs.declared.option_value.ShellState.TheVariants.{Plain}
use Rattle.pyver_requirements.proofs.option_value.take_word.Given as goal

abbrev pub invariant-loop-at : goal.invariant-loop-at
invariant-loop-at l = take l.at l.text ++ shell_word l.state (drop l.at l.text) ≡ shell_word Plain l.text
