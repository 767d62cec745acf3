use Rattle.std.proofs.Common.{◌≡◌, ◌+◌, true, drop}
use Rattle.pyver_requirements.specs.LogicalLines.{comment_start}
use Rattle.pyver_requirements.proofs.comment.comment_start.Given as goal

abbrev pub invariant-loop-at : goal.invariant-loop-at
invariant-loop-at l = l.at + comment_start l.may_begin (drop l.at l.line) ≡ comment_start true l.line
