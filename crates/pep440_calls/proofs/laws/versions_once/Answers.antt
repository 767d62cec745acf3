use Rattle.pep440_calls.proofs.Once.{either_version, never_both, no_format, one_version, one_why}
use Rattle.pep440_calls.proofs.laws.versions_once.Goals as goal

pub returns-clause-one : goal.returns-clause-one
returns-clause-one c = one_version

pub returns-clause-why : goal.returns-clause-why
returns-clause-why c = one_why

pub returns-clause-either : goal.returns-clause-either
returns-clause-either c = either_version

pub returns-clause-format : goal.returns-clause-format
returns-clause-format c = no_format

pub returns-clause-never_both : goal.returns-clause-never_both
returns-clause-never_both c = never_both
