use Rattle.pep440_calls.proofs.Once.{either_range, no_range_of_list, one_range, range_of_list, range_or_none}
use Rattle.pep440_calls.proofs.laws.ranges_once.Goals as goal

pub returns-clause-one : goal.returns-clause-one
returns-clause-one c = one_range

pub returns-clause-either : goal.returns-clause-either
returns-clause-either c = either_range

pub returns-clause-never_both : goal.returns-clause-never_both
returns-clause-never_both c = range_of_list

pub returns-clause-never_at_max : goal.returns-clause-never_at_max
returns-clause-never_at_max c = range_or_none

pub returns-clause-one_error : goal.returns-clause-one_error
returns-clause-one_error c = no_range_of_list
