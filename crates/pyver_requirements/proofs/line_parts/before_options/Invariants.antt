use Rattle.std.proofs.Common.{◌≡◌, ◌++◌, take, drop}
use Rattle.pyver_requirements.specs.LineParts.{before_options}
use Rattle.pyver_requirements.proofs.line_parts.before_options.Given as goal

abbrev pub invariant-loop-at : goal.invariant-loop-at
invariant-loop-at l = take l.at l.text ++ before_options (drop l.at l.text) ≡ before_options l.text
