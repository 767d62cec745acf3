use Rattle.std.proofs.Common.{refl}
use Rattle.pyver_commands.proofs.SourceReads.{is_of_lines}
use Rattle.pyver_commands.proofs.sources.version_line.VersionLines.finish.Goals as goal

pub returns : goal.returns
returns c = is_of_lines c.args.options c.args.self.now _ refl refl refl refl c.in_ok-push_last.ensures
