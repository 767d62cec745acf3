use Rattle.std.proofs.Common.{◌≡◌, drop}
use Rattle.pyver_requirements.specs.MarkerSteps.{marker_steps, read_tokens}
use Rattle.pyver_requirements.specs.MarkerTokens.{lexemes}
use Rattle.pyver_requirements.specs.MarkerViews.{open_groups_of}
use Rattle.pyver_requirements.proofs.marker_steps.parse_steps.Given as goal

-- what comes of the groups and the tokens that are left is the whole
abbrev pub invariant-loop-at : goal.invariant-loop-at
invariant-loop-at l = read_tokens (open_groups_of l.groups) (lexemes l.skipped (drop l.at l.text)) ≡ marker_steps l.text
