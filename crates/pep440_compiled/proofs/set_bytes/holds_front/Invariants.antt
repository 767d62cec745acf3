use Rattle.std.proofs.Common.{◌≡◌, length, take}
use Rattle.std.specs.List.{list_any}
use Rattle.std.specs.Slice.Scan.{big_endian}
use Rattle.pep440_compiled.proofs.set_bytes.holds_front.Given as goal
use Rattle.pep440_compiled.specs.SetBytes.{AreOthers, HasFronts}
use Rattle.pep440_keys.specs.RangeKeys.{is_within, segment_interval}
use Rattle.pep440_rs.specs.Bounds.{Segments}

-- the fronts that are left decide, and are others if all are
abbrev pub invariant-loop-range : goal.invariant-loop-range
invariant-loop-range l = record {
  held : (segments : Segments) → HasFronts l.fn.fronts segments
      → (more : Segments) × HasFronts l.left more × (list_any (λ s. is_within (segment_interval s) l.fn.key) segments ≡ list_any (λ s. is_within (segment_interval s) l.fn.key) more);
  some : AreOthers (big_endian 0 (take 8 l.fn.key)) l.fn.fronts → AreOthers (big_endian 0 (take 8 l.fn.key)) l.left;
}

abbrev pub decreases-loop-range : goal.decreases-loop-range
decreases-loop-range l = length l.left
