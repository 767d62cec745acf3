use Rattle.pep440_rs.proofs.Reading.Patterns.{reads_pattern}
use Rattle.pep440_rs.proofs.specifier.read.parse_pattern.Goals as goal

pub returns : goal.returns
returns c = reads_pattern c.args.text.now _ c.from_str.ensures.found c.from_str.ensures.refused
