use Rattle.std.proofs.Common.{◌∙◌, sym}
use Rattle.pep440_calls.proofs.Placed.{not_preferred, not_preferred_prerelease}
use Rattle.pep440_calls.proofs.newest_string.is_below.Goals as goal

pub returns-then-is_taken : goal.returns-then-is_taken
returns-then-is_taken c whole r means =
    not_preferred c.args.takes c.args.newest.now r (c.is_at_most.ensures c.if-is_at_most.true c.args.newest.now r c.requires means) (sym c.is_taken.ensures ∙ c.if-is_taken.true)

pub returns-else-is_taken : goal.returns-else-is_taken
returns-else-is_taken c whole r means =
    not_preferred_prerelease c.args.takes c.args.newest.now r (c.is_at_most.ensures c.if-is_at_most.true c.args.newest.now r c.requires means) (c.is_prerelease.ensures whole r means)
