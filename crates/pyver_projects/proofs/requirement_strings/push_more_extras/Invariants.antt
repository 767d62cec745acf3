use Rattle.std.proofs.Common.{◌≡◌, ◌++◌, codes, drop, map, string_bytes}
use Rattle.std.specs.List.{flat_map}
use Rattle.pyver_projects.proofs.requirement_strings.push_more_extras.Given as goal

abbrev pub invariant-loop-extra : goal.invariant-loop-extra
invariant-loop-extra l =
    string_bytes l.text ++ flat_map (λ e. codes "," ++ e) (map string_bytes (drop l.extra-index l.extras)) ≡ string_bytes l.initial.text ++ flat_map (λ e. codes "," ++ e) (map string_bytes l.extras)
