use Rattle.pep440_calls.proofs.Once.{no_operator}
use Rattle.pep440_calls.proofs.patterns.read_operator.Goals as goal

pub returns-in_default : goal.returns-in_default
returns-in_default c = no_operator c.args.bytes.now c.in_default.ensures.cases.0
