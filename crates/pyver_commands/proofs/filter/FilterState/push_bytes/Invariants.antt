use Rattle.std.proofs.Common.{◌+◌, ◌≤◌, ◌++◌, ℕ, List, take}
use Rattle.pyver_commands.specs.FilterSteps.{SplitsLines, Steps}
use Rattle.pyver_commands.specs.Sources.SourceViews.{origin_of}
use Rattle.pyver_commands.proofs.filter.FilterState.push_bytes.Given as goal

abbrev pub invariant-loop-byte : goal.invariant-loop-byte
invariant-loop-byte l = (ended : List (List ℕ)) × SplitsLines (l.initial.line.items ++ take l.byte-index l.bytes) ended l.line.items × Steps l.rule (origin_of l.origin) ended l.initial.self l.self × (l.self.line_count ≤ l.initial.self.line_count + l.byte-index)
    × (l.self.fault_count ≤ l.initial.self.fault_count + l.byte-index)
