use Rattle.std.proofs.Common.{◌∙◌, ◌++◌, map}
use Rattle.pyver_requirements.proofs.Lines.{prefixed_none}
use Rattle.pyver_requirements.specs.LineKinds.{logical_line_of}
use Rattle.pyver_requirements.specs.LogicalLines.{filled, joined_from, prefixed}
use Rattle.pyver_requirements.proofs.logical_line.LineJoiner.new.Goals as goal

pub returns-clause-lines : goal.returns-clause-lines
returns-clause-lines c = λ rest. (λ i. map logical_line_of (c.new.ensures.items i) ++ filled (prefixed 1 (c.new-2.ensures.items i) (joined_from 1 rest))) ∙ prefixed_none 1 rest
