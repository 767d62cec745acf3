-- The overlaps of three ranges are the same, whichever two are taken first. So a fold of intersections may take
-- neighbours in pairs.
use Rattle.std.proofs.Common.{◌≡◌, Bool, true, false, cond, List, [], ◌∷◌, ◌++◌, map, refl, sym, ap, ◌∙◌}
use mathlib.Core.Bool.{true≢false}
use Rattle.std.proofs.lemmas.Grind.{flat_map-append}
use Rattle.std.proofs.lemmas.List.{map-append}
use Rattle.std.proofs.lemmas.List.Elements.{filter-append}
use Rattle.std.specs.List.{filter}
use Rattle.std.specs.declared.cmp.Ordering.{Ordering}
use Rattle.std.specs.declared.ops.Bound.{Bound}
use Rattle.std.specs.Cmp.{IsTotalOrder}
use Rattle.pep440_ranges.specs.BoundOrder.{starts_before, ends_before}
use Rattle.pep440_ranges.specs.RangeSegments.{Segment}
use Rattle.pep440_ranges.specs.Intersection.{is_valid_segment, overlap, overlaps_with, overlaps}
use Rattle.pep440_ranges.proofs.Places.{start_place, end_place, valid_is, starts_is, ends_is, le_le, le_lt, lt_le, lt_lt}
use Rattle.pep440_ranges.proofs.Overlap.{greater_left, greater_right, lesser_left, lesser_right}

module _ {V : Type 0} {cmp : V → V → Ordering} (o : IsTotalOrder cmp) where
  -- ---- one segment each

  abbrev later : Bound V → Bound V → Bound V
  later a b = cond (starts_before cmp a b) b a

  abbrev earlier : Bound V → Bound V → Bound V
  earlier a b = cond (ends_before cmp b a) b a

  starts_chain : (a b c : Bound V) → starts_before cmp a b ≡ true → starts_before cmp b c ≡ true → starts_before cmp a c ≡ true
  starts_chain a b c h k = starts_is cmp a c ∙ lt_lt o (start_place a) (start_place b) (start_place c) (sym (starts_is cmp a b) ∙ h) (sym (starts_is cmp b c) ∙ k)

  starts_back : (a b c : Bound V) → starts_before cmp a b ≡ false → starts_before cmp b c ≡ false → starts_before cmp a c ≡ false
  starts_back a b c h k = starts_is cmp a c ∙ le_le o (start_place c) (start_place b) (start_place a) (sym (starts_is cmp b c) ∙ k) (sym (starts_is cmp a b) ∙ h)

  ends_chain : (a b c : Bound V) → ends_before cmp b a ≡ true → ends_before cmp c b ≡ true → ends_before cmp c a ≡ true
  ends_chain a b c h k = ends_is cmp c a ∙ lt_lt o (end_place c) (end_place b) (end_place a) (sym (ends_is cmp c b) ∙ k) (sym (ends_is cmp b a) ∙ h)

  ends_back : (a b c : Bound V) → ends_before cmp b a ≡ false → ends_before cmp c b ≡ false → ends_before cmp c a ≡ false
  ends_back a b c h k = ends_is cmp c a ∙ le_le o (end_place a) (end_place b) (end_place c) (sym (ends_is cmp b a) ∙ h) (sym (ends_is cmp c b) ∙ k)

  later_assoc : (a b c : Bound V) → later (later a b) c ≡ later a (later b c)
  later_assoc a b c = go (starts_before cmp a b) (starts_before cmp b c) refl refl
    where
      go : (t u : Bool) → starts_before cmp a b ≡ t → starts_before cmp b c ≡ u → later (cond t b a) c ≡ later a (cond u c b)
      go true true e f = ap (λ x. cond x c b) f ∙ ap (λ x. cond x c a) (sym (starts_chain a b c e f))
      go true false e f = ap (λ x. cond x c b) f ∙ ap (λ x. cond x b a) (sym e)
      go false true e f = refl
      go false false e f = ap (λ x. cond x c a) (starts_back a b c e f) ∙ ap (λ x. cond x b a) (sym e)

  earlier_assoc : (a b c : Bound V) → earlier (earlier a b) c ≡ earlier a (earlier b c)
  earlier_assoc a b c = go (ends_before cmp b a) (ends_before cmp c b) refl refl
    where
      go : (t u : Bool) → ends_before cmp b a ≡ t → ends_before cmp c b ≡ u → earlier (cond t b a) c ≡ earlier a (cond u c b)
      go true true e f = ap (λ x. cond x c b) f ∙ ap (λ x. cond x c a) (sym (ends_chain a b c e f))
      go true false e f = ap (λ x. cond x c b) f ∙ ap (λ x. cond x b a) (sym e)
      go false true e f = refl
      go false false e f = ap (λ x. cond x c a) (ends_back a b c e f) ∙ ap (λ x. cond x b a) (sym e)

  overlap_assoc : (s t u : Segment V) → overlap cmp (overlap cmp s t) u ≡ overlap cmp s (overlap cmp t u)
  overlap_assoc s t u = λ i. (later_assoc s.0 t.0 u.0 i, earlier_assoc s.1 t.1 u.1 i)

  -- a part of a valid overlap is valid
  valid_left : (s t : Segment V) → is_valid_segment cmp (overlap cmp s t) ≡ true → is_valid_segment cmp s ≡ true
  valid_left s t h =
      let m = overlap cmp s t in
      valid_is cmp s.0 s.1
      ∙ le_lt o (start_place s.0) (start_place m.0) (end_place s.1) (greater_left o s.0 t.0)
      (lt_le o (start_place m.0) (end_place m.1) (end_place s.1) (sym (valid_is cmp m.0 m.1) ∙ h) (lesser_left o s.1 t.1))

  valid_right : (s t : Segment V) → is_valid_segment cmp (overlap cmp s t) ≡ true → is_valid_segment cmp t ≡ true
  valid_right s t h =
      let m = overlap cmp s t in
      valid_is cmp t.0 t.1
      ∙ le_lt o (start_place t.0) (start_place m.0) (end_place t.1) (greater_right o s.0 t.0)
      (lt_le o (start_place m.0) (end_place m.1) (end_place t.1) (sym (valid_is cmp m.0 m.1) ∙ h) (lesser_right o s.1 t.1))

  -- ---- rows

  -- the overlaps of s and t with each of us, where s and t overlap
  abbrev shared : Segment V → Segment V → List (Segment V) → List (Segment V)
  shared s t us = cond (is_valid_segment cmp (overlap cmp s t)) (overlaps_with cmp (overlap cmp s t) us) []

  -- one more of us
  one_more : (b c d : Bool) (x y : Segment V) (xs ys : List (Segment V)) → x ≡ y → (d ≡ true → b ≡ true) → (d ≡ true → c ≡ true) → cond b xs [] ≡ ys →
      cond b (cond d (x ∷ xs) xs) [] ≡ cond c (cond d (y ∷ ys) ys) ys
  one_more true true true x y xs ys e h k r = λ i. e i ∷ r i
  one_more true true false x y xs ys e h k r = r
  one_more true false false x y xs ys e h k r = r
  one_more false true false x y xs ys e h k r = r
  one_more false false false x y xs ys e h k r = r
  one_more false c true x y xs ys e h k r = absurd (true≢false (sym (h refl)))
  one_more true false true x y xs ys e h k r = absurd (true≢false (sym (k refl)))

  either_way : (b : Bool) (xs : List (Segment V)) → cond b xs xs ≡ xs
  either_way true xs = refl
  either_way false xs = refl

  row_of : (s : Segment V) (b : Bool) (t : Segment V) (ts : List (Segment V)) → overlaps_with cmp s (cond b (t ∷ ts) ts) ≡ cond b (cond (is_valid_segment cmp (overlap cmp s t)) (overlap cmp s t ∷ overlaps_with cmp s ts) (overlaps_with cmp s ts)) (overlaps_with cmp s ts)
  row_of s true t ts = refl
  row_of s false t ts = refl

  row : (s t : Segment V) (us : List (Segment V)) → shared s t us ≡ overlaps_with cmp s (overlaps_with cmp t us)
  row s t [] = either_way (is_valid_segment cmp (overlap cmp s t)) []
  row s t (u ∷ us) =
      let same = overlap_assoc s t u in
      let valid : is_valid_segment cmp (overlap cmp (overlap cmp s t) u) ≡ is_valid_segment cmp (overlap cmp s (overlap cmp t u)) = ap (is_valid_segment cmp) same in
      one_more (is_valid_segment cmp (overlap cmp s t)) (is_valid_segment cmp (overlap cmp t u)) (is_valid_segment cmp (overlap cmp (overlap cmp s t) u))
      (overlap cmp (overlap cmp s t) u) (overlap cmp s (overlap cmp t u)) (overlaps_with cmp (overlap cmp s t) us) (overlaps_with cmp s (overlaps_with cmp t us))
      same (valid_left (overlap cmp s t) u) (λ h. valid_right s (overlap cmp t u) (sym valid ∙ h)) (row s t us)
      ∙ ap (λ d. cond (is_valid_segment cmp (overlap cmp t u)) (cond d (overlap cmp s (overlap cmp t u) ∷ overlaps_with cmp s (overlaps_with cmp t us)) (overlaps_with cmp s (overlaps_with cmp t us))) (overlaps_with cmp s (overlaps_with cmp t us))) valid
      ∙ sym (row_of s (is_valid_segment cmp (overlap cmp t u)) (overlap cmp t u) (overlaps_with cmp t us))

  -- ---- lists

  overlaps_of-append : (s : Segment V) (ts us : List (Segment V)) → overlaps_with cmp s (ts ++ us) ≡ overlaps_with cmp s ts ++ overlaps_with cmp s us
  overlaps_of-append s ts us = ap (filter (is_valid_segment cmp)) (map-append (overlap cmp s) ts us) ∙ filter-append (is_valid_segment cmp) (map (overlap cmp s) ts) (map (overlap cmp s) us)

  one_row : (b : Bool) (m : Segment V) (ms us : List (Segment V)) → overlaps cmp (cond b (m ∷ ms) ms) us ≡ cond b (overlaps_with cmp m us) [] ++ overlaps cmp ms us
  one_row true m ms us = refl
  one_row false m ms us = refl

  rows : (s : Segment V) (ts us : List (Segment V)) → overlaps cmp (overlaps_with cmp s ts) us ≡ overlaps_with cmp s (overlaps cmp ts us)
  rows s [] us = refl
  rows s (t ∷ ts) us =
      one_row (is_valid_segment cmp (overlap cmp s t)) (overlap cmp s t) (overlaps_with cmp s ts) us
      ∙ ap (λ x. x ++ overlaps cmp (overlaps_with cmp s ts) us) (row s t us)
      ∙ ap (λ x. overlaps_with cmp s (overlaps_with cmp t us) ++ x) (rows s ts us)
      ∙ sym (overlaps_of-append s (overlaps_with cmp t us) (overlaps cmp ts us))

  pub overlaps_assoc : (ss ts us : List (Segment V)) → overlaps cmp (overlaps cmp ss ts) us ≡ overlaps cmp ss (overlaps cmp ts us)
  overlaps_assoc [] ts us = refl
  overlaps_assoc (s ∷ ss) ts us =
      flat_map-append (λ m. overlaps_with cmp m us) (overlaps_with cmp s ts) (overlaps cmp ss ts)
      ∙ ap (λ x. x ++ overlaps cmp (overlaps cmp ss ts) us) (rows s ts us)
      ∙ ap (λ x. overlaps_with cmp s (overlaps cmp ts us) ++ x) (overlaps_assoc ss ts us)
