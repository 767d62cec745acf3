use Rattle.std.proofs.Common.{◌≡◌, ◌++◌, codes, take}
use Rattle.std.specs.List.{flat_map}
use Rattle.pyver_commands.specs.JsonObjects.{json_number}
use Rattle.pyver_commands.proofs.version_json.push_next_numbers.Given as goal

abbrev pub invariant-loop-number : goal.invariant-loop-number
invariant-loop-number l = l.bytes.items ≡ l.initial.bytes.items ++ flat_map (λ n. codes "," ++ json_number n) (take l.number-index l.numbers)
