use Rattle.std.proofs.Common.{◌≡◌, ◌++◌, map, take}
use Rattle.std.specs.List.{flat_map}
use Rattle.pep440_keys.specs.SortKeys.{segment_bytes}
use Rattle.pep440_version.specs.Segments.{segment}
use Rattle.pep440_keys.proofs.key_bytes.push_local.Given as goal

abbrev pub invariant-loop-part : goal.invariant-loop-part
invariant-loop-part l = l.key.items ≡ l.initial.key.items ++ flat_map segment_bytes (map segment (take l.part-index l.local))
