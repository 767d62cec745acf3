use Rattle.pep440_tool.proofs.OneAnswer.{answers_once}
use Rattle.pep440_tool.proofs.laws.answered_once.Goals as goal

pub returns : goal.returns
returns c = answers_once
