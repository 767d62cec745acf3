use Rattle.std.proofs.Common.{◌≡◌, ◌++◌, drop, map, string_bytes}
use Rattle.pyver_tool.proofs.words.push_all.Given as goal

abbrev pub invariant-loop-word : goal.invariant-loop-word
invariant-loop-word l = map string_bytes l.operands.items ++ map string_bytes (drop l.word-index l.words) ≡ map string_bytes l.fn.operands.items ++ map string_bytes l.words
