use Rattle.std.proofs.Common.{◌≡◌, map, string_bytes, take, true}
use Rattle.pyver_commands.specs.Sources.SourceTexts.{HasBoundedSize, sources_of}
use Rattle.pyver_commands.specs.Sources.{ReadsAll, is_none}
use Rattle.pyver_commands.proofs.sources.source_texts.read_all.Given as goal

abbrev pub invariant-loop-name : goal.invariant-loop-name
invariant-loop-name g l =
    ReadsAll (g.F.Files.known l.initial.files) g.R.Read.remaining true (map string_bytes (take l.name-index l.names)) l.initial.input l.input (sources_of l.state)
    × (g.F.Files.known l.files ≡ g.F.Files.known l.initial.files) × HasBoundedSize l.state × (l.is_first ≡ is_none (map string_bytes (take l.name-index l.names)))
