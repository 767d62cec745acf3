use Rattle.pep440_keys.proofs.Order.{derived_keyed, pattern_keyed, texts_in_order}
use Rattle.pep440_keys.proofs.laws.texts_are_ordered.Goals as goal

pub returns-clause-keyed : goal.returns-clause-keyed
returns-clause-keyed c = derived_keyed

pub returns-clause-keyed_pattern : goal.returns-clause-keyed_pattern
returns-clause-keyed_pattern c = pattern_keyed

pub returns-clause-ordered : goal.returns-clause-ordered
returns-clause-ordered c = texts_in_order
