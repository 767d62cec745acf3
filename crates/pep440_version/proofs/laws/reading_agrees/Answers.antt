use Rattle.pep440_version.proofs.Reading.Agreement.{only, only_pattern}
use Rattle.pep440_version.proofs.Rejections.ExactlyOne.{decides, decides_pattern}
use Rattle.pep440_version.proofs.laws.reading_agrees.Goals as goal

pub returns-clause-version : goal.returns-clause-version
returns-clause-version c = only

pub returns-clause-refused : goal.returns-clause-refused
returns-clause-refused c = decides

pub returns-clause-pattern : goal.returns-clause-pattern
returns-clause-pattern c = only_pattern

pub returns-clause-refused_pattern : goal.returns-clause-refused_pattern
returns-clause-refused_pattern c = decides_pattern
