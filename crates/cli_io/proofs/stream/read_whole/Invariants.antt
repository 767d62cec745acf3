use Rattle.std.proofs.Common.{◌+◌, ◌*◌, ◌-◌, ◌≤◌, length}
use Rattle.std.specs.Io.KnownBytes.{Consumes}
use Rattle.cli_io.proofs.stream.read_whole.Given as goal

abbrev pub invariant-loop-read_count : goal.invariant-loop-read_count
invariant-loop-read_count g l =
    Consumes (g.R.Read.remaining l.initial.reader) (g.R.Read.remaining l.reader) l.input.items × (length l.input.items + 8192 * l.initial.read_count ≤ 8192 * l.read_count)

abbrev pub decreases-loop-read_count : goal.decreases-loop-read_count
decreases-loop-read_count g l = l.most_reads - l.read_count
