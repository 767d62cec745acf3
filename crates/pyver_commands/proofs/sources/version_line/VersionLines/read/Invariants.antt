use Rattle.std.proofs.Common.{◌≤◌, map, take}
use Rattle.pyver_commands.specs.Sources.InputLines.{filled_lines}
use Rattle.pyver_commands.specs.Sources.SourceTexts.{size_of, source_of}
use Rattle.pyver_commands.specs.Sources.VersionLineViews.{KeepsLines}
use Rattle.pyver_commands.proofs.sources.version_line.VersionLines.read.Given as goal

abbrev pub invariant-loop-source : goal.invariant-loop-source
invariant-loop-source l = record {
  keeps : KeepsLines l.options (filled_lines (map source_of (take l.source-index l.sources))) l.lines;
  limits : l.lines.fault_count ≤ size_of (take l.source-index l.sources);
}
