use Rattle.std.proofs.Common.{◌≡◌, ◌++◌, take}
use Rattle.cli_io.specs.Escapes.{escaped}
use Rattle.cli_io.proofs.escape.push_escaped.Given as goal

abbrev pub invariant-loop-byte : goal.invariant-loop-byte
invariant-loop-byte l = l.text.items ≡ l.initial.text.items ++ escaped (take l.byte-index l.bytes)
