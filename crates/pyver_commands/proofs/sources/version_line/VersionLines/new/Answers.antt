use Rattle.std.proofs.Common.{refl}
use Rattle.pyver_commands.proofs.SourceReads.{keeps_none}
use Rattle.pyver_commands.proofs.sources.version_line.VersionLines.new.Goals as goal

pub returns : goal.returns
returns c = λ options. keeps_none options _ c.new.ensures.items c.new-2.ensures.items c.new-3.ensures.items refl c.new-4.ensures.items
