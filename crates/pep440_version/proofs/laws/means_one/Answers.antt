use Rattle.pep440_version.proofs.Reading.Agreement.{one_record, one_pattern}
use Rattle.pep440_version.proofs.laws.means_one.Goals as goal

pub returns-clause-version : goal.returns-clause-version
returns-clause-version c = one_record

pub returns-clause-pattern : goal.returns-clause-pattern
returns-clause-pattern c = one_pattern
