use Rattle.std.proofs.Common.{◌≡◌, ◌++◌, take}
use Rattle.std.specs.List.{flat_map}
use Rattle.pep440_keys.specs.SortKeys.{number_bytes}
use Rattle.pep440_keys.proofs.key_bytes.push_numbers.Given as goal

abbrev pub invariant-loop-number : goal.invariant-loop-number
invariant-loop-number g l = g.K.KeySink.written l.key ≡ g.K.KeySink.written l.initial.key ++ flat_map (number_bytes 1) (take l.number-index l.number-items)
