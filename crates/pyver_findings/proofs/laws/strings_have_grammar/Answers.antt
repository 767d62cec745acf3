use Rattle.pyver_findings.proofs.StringReadings.{strings_have_grammar}
use Rattle.pyver_findings.proofs.laws.strings_have_grammar.Goals as goal

pub returns : goal.returns
returns c = strings_have_grammar
