use Rattle.std.proofs.Common.{◌≡◌, [], length, map, option_map, string_bytes}
use Rattle.pyver_tool.specs.Tasks.{bump_from_words}
use Rattle.pyver_tool.proofs.command.start_bump.Given as goal

abbrev pub invariant-loop-left : goal.invariant-loop-left
invariant-loop-left l =
    bump_from_words l.to [] (map string_bytes l.names) (option_map (λ v. v.now) l.version) ≡ bump_from_words l.to l.parts.items (map string_bytes l.left) (option_map (λ v. v.now) l.version)

abbrev pub decreases-loop-left : goal.decreases-loop-left
decreases-loop-left l = length l.left
