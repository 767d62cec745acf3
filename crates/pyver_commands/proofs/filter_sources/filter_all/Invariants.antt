use Rattle.std.proofs.Common.{◌≡◌, ◌*◌, ◌≤◌, map, string_bytes, take}
use Rattle.pyver_commands.proofs.Filtering.{GoesOn}
use Rattle.pyver_commands.specs.Sources.{is_none}
use Rattle.pyver_commands.proofs.filter_sources.filter_all.Given as goal

abbrev pub invariant-loop-name : goal.invariant-loop-name
invariant-loop-name g l =
    GoesOn (g.F.Files.known l.initial.files) g.R.Read.remaining g.W.Write.contents g.E.Write.contents l.rule (map string_bytes (take l.name-index l.names)) l.state l.initial.input l.input l.initial.out l.out l.initial.err l.err
    × (g.F.Files.known l.files ≡ g.F.Files.known l.initial.files) × (l.state.fault_count ≤ 8192 * l.state.read_count) × (l.is_first ≡ is_none (map string_bytes (take l.name-index l.names)))
