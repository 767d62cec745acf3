use Rattle.pep440_sets.proofs.LiteralRules.{agrees_elsewhere, is_wider}
use Rattle.pep440_sets.proofs.laws.literal_rule.Goals as goal

pub returns-clause-wider : goal.returns-clause-wider
returns-clause-wider c = is_wider

pub returns-clause-elsewhere : goal.returns-clause-elsewhere
returns-clause-elsewhere c = agrees_elsewhere
