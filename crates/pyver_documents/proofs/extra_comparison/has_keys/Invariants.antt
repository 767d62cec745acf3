use Rattle.std.proofs.Common.{◌≡◌, drop, map}
use Rattle.pyver_documents.specs.Comparing.{has_keys}
use Rattle.pyver_documents.proofs.extra_comparison.has_keys.Given as goal

abbrev pub invariant-loop-key : goal.invariant-loop-key
invariant-loop-key l =
    has_keys (map (λ k. k.items) l.found) (map (λ k. k.items) l.keys) ≡ has_keys (map (λ k. k.items) l.found) (map (λ k. k.items) (drop l.key-index l.keys))
