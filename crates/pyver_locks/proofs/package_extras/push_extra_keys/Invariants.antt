use Rattle.std.proofs.Common.{◌≡◌, ◌++◌, drop, map}
use Rattle.pyver_locks.specs.PackageRequirements.{extra_key}
use Rattle.pyver_locks.proofs.package_extras.push_extra_keys.Given as goal

abbrev pub invariant-loop-extra : goal.invariant-loop-extra
invariant-loop-extra l =
    map (λ k. k.items) l.keys.items ++ map (extra_key l.name) (map (λ e. e.items) (drop l.extra-index l.extras)) ≡ map (λ k. k.items) l.initial.keys.items ++ map (extra_key l.name) (map (λ e. e.items) l.extras)
