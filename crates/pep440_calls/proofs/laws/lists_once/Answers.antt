use Rattle.pep440_calls.proofs.Once.{either_bytes_list, never_both_lists, one_bytes_list, one_list_why}
use Rattle.pep440_calls.proofs.laws.lists_once.Goals as goal

pub returns-clause-one : goal.returns-clause-one
returns-clause-one c = one_bytes_list

pub returns-clause-why : goal.returns-clause-why
returns-clause-why c = one_list_why

pub returns-clause-either : goal.returns-clause-either
returns-clause-either c = either_bytes_list

pub returns-clause-never_both : goal.returns-clause-never_both
returns-clause-never_both c = never_both_lists
