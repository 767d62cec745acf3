use Rattle.pyver_markers.proofs.Readings.{no_version_read, version_read}
use Rattle.pyver_markers.proofs.version.ascii_version.Goals as goal

pub returns-else-is_out_of_memory : goal.returns-else-is_out_of_memory
returns-else-is_out_of_memory c = no_version_read _ _ _ _ c.in-Some.ensures.ascii c.in-Err.ensures.refused c.is_out_of_memory.ensures c.if-is_out_of_memory.false

pub returns-in-Ok : goal.returns-in-Ok
returns-in-Ok c = version_read _ _ _ c.in-Some.ensures.ascii c.in-Ok.ensures.found
