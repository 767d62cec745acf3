use Rattle.std.proofs.Common.{List, ◌≡◌, map, take}
use Rattle.std.specs.List.{AllZip}
use Rattle.pep440_calls.proofs.batch.view_encodings.Given as goal
use Rattle.pep440_calls.specs.Batches.{encoding_bytes}
use Rattle.pep440_calls.specs.CallerBytes.{BytesDenote}
use Rattle.pep440_version.specs.Record.{Record}

abbrev pub invariant-loop-text : goal.invariant-loop-text
invariant-loop-text l = (versions : List Record) × AllZip BytesDenote (map (λ t. t.now) (take l.text-index l.texts)) versions × (map (λ f. f.now) l.found.items ≡ map (encoding_bytes l.encoding) versions)
