use Rattle.std.proofs.Common.{◌+◌, ◌≤◌, length}
use Rattle.pyver_commands.proofs.SourceReads.{KeepsFront, size_left}
use Rattle.pyver_commands.specs.Sources.SourceViews.{origin_of}
use Rattle.pyver_commands.proofs.sources.version_line.VersionLines.push_source.Given as goal

abbrev pub invariant-loop-rest : goal.invariant-loop-rest
invariant-loop-rest l = record {
  front : KeepsFront l.options (origin_of l.origin) l.text l.rest l.initial.self l.self;
  lines : l.self.line_count + size_left l.rest ≤ length l.text + 1;
  faults : l.self.fault_count + size_left l.rest ≤ l.initial.self.fault_count + length l.text + 1;
}

abbrev pub decreases-loop-rest : goal.decreases-loop-rest
decreases-loop-rest l = size_left l.rest
