use Rattle.std.proofs.Common.{◌≡◌, ◌++◌, codes, take}
use Rattle.std.specs.List.{flat_map}
use Rattle.pyver_commands.proofs.sort.push_lines.Given as goal

abbrev pub invariant-loop-text : goal.invariant-loop-text
invariant-loop-text l = l.output.items ≡ l.initial.output.items ++ flat_map (λ t. t.now ++ codes "\n") (take l.text-index l.texts)
