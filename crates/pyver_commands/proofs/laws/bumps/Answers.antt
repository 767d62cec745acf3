use Rattle.pyver_commands.proofs.CommandLaws.{bumps_are_greater, bumps_change_only, releases_are_bumped}
use Rattle.pyver_commands.proofs.laws.bumps.Goals as goal

pub returns : goal.returns
returns c = record { greater = bumps_are_greater; parts = bumps_change_only; release = releases_are_bumped }
