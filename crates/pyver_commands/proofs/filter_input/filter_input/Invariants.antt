use Rattle.std.proofs.Common.{◌*◌, ◌-◌, ◌≤◌}
use Rattle.pyver_commands.specs.FilterSteps.{Goes}
use Rattle.pyver_commands.specs.Sources.SourceViews.{origin_of}
use Rattle.pyver_commands.proofs.filter_input.filter_input.Given as goal

abbrev pub invariant-loop-state : goal.invariant-loop-state
invariant-loop-state g l =
    Goes g.R.Read.remaining g.W.Write.contents g.E.Write.contents l.rule (origin_of l.origin) l.initial.state l.state l.initial.input l.input l.initial.out l.out l.initial.err l.err l.line.items
    × (l.state.line_count ≤ 8192 * l.state.read_count) × (l.state.fault_count ≤ 8192 * l.state.read_count)

abbrev pub decreases-loop-state : goal.decreases-loop-state
decreases-loop-state g l = 562949953421312 - l.state.read_count
