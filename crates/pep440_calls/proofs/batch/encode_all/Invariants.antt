use Rattle.std.proofs.Common.{map, take}
use Rattle.pep440_calls.specs.Batches.{JoinsEncodings, encoding_bytes}
use Rattle.pep440_calls.proofs.batch.encode_all.Given as goal

abbrev pub invariant-loop-position : goal.invariant-loop-position
invariant-loop-position l = JoinsEncodings (encoding_bytes l.encoding) (map (λ t. t.now) (take l.position l.texts)) l.joined.bytes.items l.joined.ends.items
