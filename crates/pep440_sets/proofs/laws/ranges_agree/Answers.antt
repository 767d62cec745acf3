use Rattle.pep440_sets.proofs.LiteralRules.{range_agrees_literally}
use Rattle.pep440_sets.proofs.laws.ranges_agree.Goals as goal

pub returns : goal.returns
returns c = range_agrees_literally
