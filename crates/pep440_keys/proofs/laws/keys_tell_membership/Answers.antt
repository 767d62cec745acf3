use Rattle.pep440_keys.proofs.Order.{in_range, in_segment}
use Rattle.pep440_keys.proofs.laws.keys_tell_membership.Goals as goal

pub returns-clause-segment : goal.returns-clause-segment
returns-clause-segment c = in_segment

pub returns-clause-range : goal.returns-clause-range
returns-clause-range c = in_range
