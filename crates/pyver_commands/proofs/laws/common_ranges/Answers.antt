use Rattle.pyver_commands.proofs.CommandLaws.{no_version_has_its_status, no_version_is_common, version_is_common}
use Rattle.pyver_commands.proofs.laws.common_ranges.Goals as goal

pub returns-clause-none : goal.returns-clause-none
returns-clause-none c = no_version_is_common

pub returns-clause-some : goal.returns-clause-some
returns-clause-some c = version_is_common

pub returns-clause-status : goal.returns-clause-status
returns-clause-status c = no_version_has_its_status
