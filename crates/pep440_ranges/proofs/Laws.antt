-- The statements of `specs/Laws.antt`, for every total order.
use Rattle.std.proofs.Common.{◌≡◌, Bool, true, false, cond, [], ◌∷◌, refl, sym, ◌∙◌, List, inl, inr}
use mathlib.Core.Bool.{true≢false}
use Rattle.std.proofs.Math.Bool.{or-false}
use Rattle.std.specs.declared.cmp.Ordering.{Ordering}
use Rattle.std.specs.declared.ops.Bound.{Bound}
use Rattle.std.specs.Cmp.{IsTotalOrder}
use Rattle.pep440_ranges.specs.BoundOrder.{is_valid}
use Rattle.pep440_ranges.specs.RangeSegments.{lies_in, contains, IsRange, Segment}
use Rattle.pep440_ranges.proofs.Overlap.{lies_valid}
use Rattle.pep440_ranges.specs.Laws.{OneSegmentIsRange, OneSegmentHoldsBetween, GapsAreRange, GapsHoldTheRest, GapsAreFew, OverlapsAreRange, OverlapsHoldBoth, OverlapsAreFew}
use Rattle.std.specs.declared.ops.Bound.TheVariants.{Included, Excluded, Unbounded}
use Rattle.pep440_ranges.specs.Clones.{IsValueOf, IsCloneSame, ClonesBound, ClonesBoundValues, ClonesEach}
use Rattle.pep440_ranges.proofs.Complement as complement
use Rattle.pep440_ranges.proofs.Overlap as overlap

module _ {V : Type 0} {cmp : V → V → Ordering} (o : IsTotalOrder cmp) where
  pub one_segment_holds_between : OneSegmentHoldsBetween cmp
  one_segment_holds_between start end v = go (is_valid cmp start end) (lies_in cmp (start, end) v) refl (lies_valid o (start, end) v)
    where
      go : (b l : Bool) → lies_in cmp (start, end) v ≡ l → (l ≡ true → b ≡ true) → contains cmp (cond b ((start, end) ∷ []) []) v ≡ l
      go true l e h = or-false _ ∙ e
      go false true e h = absurd (true≢false (sym (h refl)))
      go false false e h = refl

  pub one_segment_is_range : OneSegmentIsRange cmp
  one_segment_is_range start end = go (is_valid cmp start end) refl
    where
      go : (b : Bool) → is_valid cmp start end ≡ b → IsRange cmp (cond b ((start, end) ∷ []) [])
      go true e = (e, tt)
      go false e = tt

  pub gaps_are_range : GapsAreRange cmp
  gaps_are_range = complement.gaps_range o

  pub gaps_hold_the_rest : GapsHoldTheRest cmp
  gaps_hold_the_rest = complement.gaps_set o

  pub gaps_are_few : GapsAreFew cmp
  gaps_are_few = complement.gaps_count

  pub overlaps_are_range : OverlapsAreRange cmp
  overlaps_are_range = overlap.overlaps_range o

  pub overlaps_hold_both : OverlapsHoldBoth cmp
  overlaps_hold_both = overlap.overlaps_set o

  pub overlaps_are_few : OverlapsAreFew cmp
  overlaps_are_few = overlap.overlaps_count o

-- ---- that a clone of each held value is that same value, of each bound in turn

module _ {V : Type 0} (is_clone : V → V → Type 0) where
  clones_bound : (b : Bound V) → ((x : V) → IsValueOf b x → IsCloneSame is_clone x) → ClonesBound is_clone b
  clones_bound (Included x) h = h x refl
  clones_bound (Excluded x) h = h x refl
  clones_bound Unbounded h = tt

  pub clones_each : (ss : List (Segment V)) → ClonesBoundValues is_clone ss → ClonesEach is_clone ss
  clones_each [] h = tt
  clones_each (s ∷ ss) h = (clones_bound s.0 (λ x e. h x (inl e)), clones_bound s.1 (λ x e. h x (inr (inl e))), clones_each ss (λ x held. h x (inr (inr held))))
