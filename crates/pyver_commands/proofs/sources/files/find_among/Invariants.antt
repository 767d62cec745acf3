use Rattle.std.proofs.Common.{List, Option, drop, map, string_bytes, ℕ}
use Rattle.pyver_commands.specs.Sources.{FindsOutput}
use Rattle.pyver_commands.proofs.sources.files.find_among.Given as goal

abbrev pub invariant-loop-name : goal.invariant-loop-name
invariant-loop-name g l = (found : Option (List ℕ)) → FindsOutput (g.F.Files.output l.files) (map string_bytes (drop l.name-index l.names)) found → FindsOutput (g.F.Files.output l.files) (map string_bytes l.names) found
