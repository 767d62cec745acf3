use Rattle.std.proofs.Common.{◌≡◌, ◌++◌, length}
use Rattle.std.specs.List.{flat_map}
use Rattle.pep440_compiled.proofs.Loops.{Reads}
use Rattle.pep440_compiled.proofs.decode.read_numbers.Given as goal
use Rattle.pep440_keys.specs.SortKeys.{number_bytes}
use Rattle.pep440_version.specs.Record.{Fits}

abbrev pub invariant-loop-first : goal.invariant-loop-first
invariant-loop-first l = record {
  reads : Reads Fits (number_bytes 1) l.fn.bytes l.numbers.items l.left;
  coded : l.fn.bytes ≡ flat_map (number_bytes 1) l.numbers.items ++ l.left;
}

abbrev pub decreases-loop-first : goal.decreases-loop-first
decreases-loop-first l = length l.left
