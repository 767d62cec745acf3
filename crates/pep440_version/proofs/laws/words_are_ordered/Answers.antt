use Rattle.pep440_version.proofs.Words.Order.{word_order}
use Rattle.pep440_version.proofs.laws.words_are_ordered.Goals as goal

pub returns : goal.returns
returns c = word_order
