use Rattle.std.proofs.Common.{◌≡◌, ◌≤◌, ◌++◌, [], length}
use Rattle.std.specs.List.{All}
use Rattle.std.specs.Prelude.{unwrap_or}
use Rattle.std.specs.declared.ops.Bound.{Bound}
use Rattle.pep440_compiled.proofs.SetMerging.{Trailing}
use Rattle.pep440_compiled.proofs.set_operations.ends_in_key.Given as goal
use Rattle.pep440_compiled.specs.SetBytes.{IsSized, set_bytes, sized_bytes}
use Rattle.pep440_keys.specs.RangeKeys.{high_key}
use Rattle.pep440_rs.specs.Bounds.{Segments}
use Rattle.pep440_version.specs.Record.{Fits, Record}

-- the keys that were looked at, and those of what is left
abbrev pub invariant-loop-left : goal.invariant-loop-left
invariant-loop-left l = record {
  keys : (end : Bound Record) (s : Segments) → All IsSized s → Fits (length (unwrap_or (high_key end) [])) → l.keys ≡ sized_bytes (unwrap_or (high_key end) []) ++ set_bytes s → Trailing end s l.keys l.left;
  shorter : length l.left ≤ length l.keys;
}

abbrev pub decreases-loop-left : goal.decreases-loop-left
decreases-loop-left l = length l.left
