-- A merge over slices: what was shared so far, and the overlaps of what is left, are all overlaps.
use Rattle.std.proofs.Common.{◌≡◌, true, false, List, [], ◌∷◌, ◌++◌, length, refl, sym, ap, ◌∙◌, subst, arith, append_assoc, append-nil, ◌⊎◌, inl, inr}
use Rattle.std.specs.declared.cmp.Ordering.{Ordering}
use Rattle.std.specs.declared.ops.Bound.{Bound}
use Rattle.std.specs.Cmp.{IsTotalOrder}
use Rattle.pep440_ranges.specs.BoundOrder.{ends_before}
use Rattle.pep440_ranges.specs.RangeSegments.{Segment, IsRange, IsRangeAfter, one_segment}
use Rattle.pep440_ranges.specs.Intersection.{overlap, overlaps_with, overlaps}
use Rattle.pep440_ranges.specs.Clones.{ClonesEach}
use Rattle.pep440_ranges.proofs.Overlap.{step_left, step_right, overlaps_nil, taken, skipped}

pub length_none : {A : Type 0} (xs : List A) → length xs ≡ 0 → xs ≡ []
length_none [] e = refl
length_none (x ∷ xs) e = absurd (omega arith)

pub same_overlaps : {V : Type 0} (cmp : V → V → Ordering) {a b c d : List (Segment V)} → a ≡ c → b ≡ d → overlaps cmp a b ≡ overlaps cmp c d
same_overlaps cmp {b = b} {c = c} p q = ap (λ x. overlaps cmp x b) p ∙ ap (overlaps cmp c) q

pub tail_range : {V : Type 0} (cmp : V → V → Ordering) (ss rest : List (Segment V)) (s : Segment V) → ss ≡ s ∷ rest → IsRange cmp ss → IsRange cmp rest
tail_range {V} cmp ss rest s e r = go rest (subst (IsRange cmp) e r).1
  where
    go : (rest : List (Segment V)) → IsRangeAfter cmp s.1 rest → IsRange cmp rest
    go [] r = tt
    go (t ∷ rest) r = (r.1, r.2)

pub tail_clones : {V : Type 0} (is_clone : V → V → Type 0) (ss rest : List (Segment V)) (s : Segment V) → ss ≡ s ∷ rest → ClonesEach is_clone ss → ClonesEach is_clone rest
tail_clones is_clone ss rest s e r = (subst (ClonesEach is_clone) e r).2

module _ {V : Type 0} {cmp : V → V → Ordering} (o : IsTotalOrder cmp) where
  after_range : (s : Segment V) (ss left : List (Segment V)) → left ≡ s ∷ ss → IsRange cmp left → IsRangeAfter cmp s.1 ss
  after_range s ss left p r = (subst (IsRange cmp) p r).1

  moved : (shared shared' row rest whole : List (Segment V)) (all : List (Segment V)) → all ≡ row ++ rest → shared' ≡ shared ++ row → shared ++ all ≡ whole → shared' ++ rest ≡ whole
  moved shared shared' row rest whole all e p q =
      ap (λ l. l ++ rest) p ∙ append_assoc shared row rest ∙ ap (λ l. shared ++ l) (sym e) ∙ q

  -- what is appended between the greater start and the lesser end is the valid overlap of the two
  appended : (s t : Segment V) (start end : Bound V) → start ≡ (overlap cmp s t).0 → end ≡ (overlap cmp s t).1 → one_segment cmp start end ≡ overlaps_with cmp s (t ∷ [])
  appended s t start end p q = ap (λ b. one_segment cmp b end) p ∙ ap (one_segment cmp (overlap cmp s t).0) q

  -- s ends first
  pub merge_left : (s t : Segment V) (start : Bound V) (ss ts left right shared shared' whole : List (Segment V)) → left ≡ s ∷ ss → right ≡ t ∷ ts →
      ends_before cmp t.1 s.1 ≡ false → start ≡ (overlap cmp s t).0 → IsRange cmp right → shared' ≡ shared ++ one_segment cmp start s.1 → shared ++ overlaps cmp left right ≡ whole →
      shared' ++ overlaps cmp ss right ≡ whole
  merge_left s t start ss ts left right shared shared' whole p q h g r e i =
      moved shared shared' (overlaps_with cmp s (t ∷ [])) (overlaps cmp ss right) whole (overlaps cmp left right)
      (same_overlaps cmp p q ∙ step_left o s t ss ts h (after_range t ts right q r) ∙ ap (λ l. overlaps_with cmp s (t ∷ []) ++ overlaps cmp ss l) (sym q))
      (e ∙ ap (λ l. shared ++ l) (appended s t start s.1 g (sym (skipped (ends_before cmp t.1 s.1) t.1 s.1 h)))) i

  -- t ends first
  pub merge_right : (s t : Segment V) (start : Bound V) (ss ts left right shared shared' whole : List (Segment V)) → left ≡ s ∷ ss → right ≡ t ∷ ts →
      ends_before cmp t.1 s.1 ≡ true → start ≡ (overlap cmp s t).0 → IsRange cmp left → shared' ≡ shared ++ one_segment cmp start t.1 → shared ++ overlaps cmp left right ≡ whole →
      shared' ++ overlaps cmp left ts ≡ whole
  merge_right s t start ss ts left right shared shared' whole p q h g r e i =
      moved shared shared' (overlaps_with cmp s (t ∷ [])) (overlaps cmp left ts) whole (overlaps cmp left right)
      (same_overlaps cmp p q ∙ step_right o s t ss ts h (after_range s ss left p r) ∙ ap (λ l. overlaps_with cmp s (t ∷ []) ++ overlaps cmp l ts) (sym p))
      (e ∙ ap (λ l. shared ++ l) (appended s t start t.1 g (sym (taken (ends_before cmp t.1 s.1) t.1 s.1 h)))) i

  pub merge_done : (left right shared whole : List (Segment V)) → (length left ≡ 0) ⊎ (length right ≡ 0) → shared ++ overlaps cmp left right ≡ whole → shared ≡ whole
  merge_done left right shared whole d i = sym (append-nil shared) ∙ ap (λ l. shared ++ l) (sym (none left right d)) ∙ i
    where
      none : (left right : List (Segment V)) → (length left ≡ 0) ⊎ (length right ≡ 0) → overlaps cmp left right ≡ []
      none left right (inl e) = same_overlaps cmp {b = right} (length_none left e) refl
      none left right (inr e) = same_overlaps cmp {c = left} refl (length_none right e) ∙ overlaps_nil o left
