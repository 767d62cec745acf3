use Rattle.std.proofs.Common.{◌≡◌, length, map, take}
use Rattle.std.specs.List.{flat_map}
use Rattle.pep440_calls.proofs.buffer.sum_lengths.Given as goal

abbrev pub invariant-loop-string : goal.invariant-loop-string
invariant-loop-string l = l.sum ≡ length (flat_map (λ s. s) (map (λ s. s.now) (take l.string-index l.strings)))
