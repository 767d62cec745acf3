use Rattle.std.proofs.Common.{◌≡◌, ◌++◌, ◌∷◌, drop, map}
use Rattle.std.specs.List.{flat_map}
use Rattle.pyver_locks.proofs.lock_faults.push_each_extra.Given as goal

abbrev pub invariant-loop-extra : goal.invariant-loop-extra
invariant-loop-extra l = l.text.items ++ flat_map (λ e. 91 ∷ e) (map (λ e. e.items) (drop l.extra-index l.extras)) ≡ l.initial.text.items ++ flat_map (λ e. 91 ∷ e) (map (λ e. e.items) l.extras)
