use Rattle.pyver_requirements.proofs.Lines.{HasNoLineEnd}
use Rattle.pyver_requirements.proofs.physical_line.split_line.Given as goal

abbrev pub invariant-loop-at : goal.invariant-loop-at
invariant-loop-at l = HasNoLineEnd l.text l.at
