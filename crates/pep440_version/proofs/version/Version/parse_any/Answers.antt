use Rattle.pep440_version.proofs.Reading.Agreement.{only}
use Rattle.pep440_version.proofs.version.Version.parse_any.Goals as goal

pub returns-in-Some-clause-reads : goal.returns-in-Some-clause-reads
returns-in-Some-clause-reads c = only c.args.text.now c.in-Some.version c.in-Some.ensures
