use Rattle.pep440_version.proofs.Reading.Agreement.{only_pattern}
use Rattle.pep440_version.proofs.pattern.VersionPattern.parse_any.Goals as goal

pub returns-in-Some-clause-reads : goal.returns-in-Some-clause-reads
returns-in-Some-clause-reads c = only_pattern c.args.text.now c.in-Some.version c.in-Some.wildcard c.in-Some.ensures
