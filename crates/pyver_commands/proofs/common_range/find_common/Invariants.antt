use Rattle.std.proofs.Common.{string_bytes}
use Rattle.pyver_commands.proofs.CommandLaws.{Found}
use Rattle.pyver_commands.proofs.common_range.find_common.Given as goal

abbrev pub invariant-loop-word : goal.invariant-loop-word
invariant-loop-word l = Found string_bytes l.words l.word-index l.found.errors.items l.found.members.items
