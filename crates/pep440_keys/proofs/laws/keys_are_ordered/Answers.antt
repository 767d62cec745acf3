use Rattle.pep440_keys.proofs.Order.{followed_in_order, keys_in_order, same_keys}
use Rattle.pep440_keys.proofs.laws.keys_are_ordered.Goals as goal

pub returns-clause-ordered : goal.returns-clause-ordered
returns-clause-ordered c = keys_in_order

pub returns-clause-same : goal.returns-clause-same
returns-clause-same c = same_keys

pub returns-clause-followed : goal.returns-clause-followed
returns-clause-followed c = followed_in_order
