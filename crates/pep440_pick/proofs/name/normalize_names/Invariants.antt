use Rattle.std.proofs.Common.{◌≡◌, ◌++◌, drop, map, string_bytes}
use Rattle.pep440_pick.specs.Names.{normal}
use Rattle.pep440_pick.proofs.name.normalize_names.Given as goal

abbrev pub invariant-loop-name : goal.invariant-loop-name
invariant-loop-name l = map (λ n. n.items) l.found.items ++ map normal (map string_bytes (drop l.name-index l.names)) ≡ map normal (map string_bytes l.names)
