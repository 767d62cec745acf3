use Rattle.pep440_compiled.proofs.Fronts.{parsed}
use Rattle.pep440_compiled.proofs.laws.parsed_versions_compile.Goals as goal

pub returns : goal.returns
returns c = parsed
