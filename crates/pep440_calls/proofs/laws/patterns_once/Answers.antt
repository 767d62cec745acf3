use Rattle.pep440_calls.proofs.Once.{either_bytes_pattern, never_both_patterns, one_bytes_pattern}
use Rattle.pep440_calls.proofs.laws.patterns_once.Goals as goal

pub returns-clause-one : goal.returns-clause-one
returns-clause-one c = one_bytes_pattern

pub returns-clause-either : goal.returns-clause-either
returns-clause-either c = either_bytes_pattern

pub returns-clause-never_both : goal.returns-clause-never_both
returns-clause-never_both c = never_both_patterns
