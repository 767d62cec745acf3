use Rattle.std.proofs.Common.{◌≡◌, length}
use Rattle.std.specs.List.{All, AllByRecursion, list_any}
use Rattle.pep440_compiled.proofs.set_bytes.holds_key_soon.Given as goal
use Rattle.pep440_compiled.specs.SetBytes.{IsSized, set_bytes}
use Rattle.pep440_keys.specs.RangeKeys.{is_within, segment_interval}
use Rattle.pep440_rs.specs.Bounds.{Segments}

-- what is left of the set decides
abbrev pub invariant-loop-left : goal.invariant-loop-left
invariant-loop-left l = (segments : Segments) → All IsSized segments → l.fn.set ≡ set_bytes segments
    → (more : Segments) × AllByRecursion IsSized more × (l.left ≡ set_bytes more)
    × (list_any (λ s. is_within (segment_interval s) l.fn.key) segments ≡ list_any (λ s. is_within (segment_interval s) l.fn.key) more)

abbrev pub decreases-loop-left : goal.decreases-loop-left
decreases-loop-left l = length l.left
