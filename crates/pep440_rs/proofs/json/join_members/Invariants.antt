use Rattle.std.proofs.Common.{◌≡◌, ◌++◌, codes, string_bytes, take}
use Rattle.std.specs.List.{flat_map}
use Rattle.pep440_rs.specs.Specifiers.{print_spec}
use Rattle.pep440_rs.proofs.json.join_members.Given as goal

abbrev pub invariant-loop-member : goal.invariant-loop-member
invariant-loop-member l = string_bytes l.text ≡ string_bytes l.initial.text ++ flat_map (λ s. codes "," ++ print_spec s) (take l.member-index l.others)
