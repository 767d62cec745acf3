-- What two segments share: where it lies, and which values it holds.
use Rattle.std.proofs.Common.{◌≡◌, Bool, true, false, cond, not, ◌&&◌, ◌||◌, List, [], ◌∷◌, map, refl, sym, ap, ◌∙◌, ◌++◌, ◌+◌, ◌-◌, ◌≤◌, length, None, subst, IsTrue, arith}
use mathlib.Core.Bool.{true≢false}
use Rattle.std.proofs.lemmas.Bool.{and_parts, not-true}
use Rattle.std.specs.List.{filter}
use Rattle.std.specs.declared.cmp.Ordering.{Ordering}
use Rattle.std.specs.declared.ops.Bound.{Bound}
use Rattle.std.specs.Cmp.{IsTotalOrder}
use Rattle.std.specs.Ordering.{is_lt}
use Rattle.std.proofs.lemmas.Cmp.{tied_itself}
use Rattle.pep440_ranges.specs.BoundOrder.{is_from_start, is_up_to_end, starts_before, ends_before, is_valid, is_apart}
use Rattle.pep440_ranges.specs.RangeSegments.{Segment, lies_in, contains, IsRangeAfter, IsRange}
use Rattle.pep440_ranges.specs.Intersection.{is_valid_segment, overlap, overlaps_with, overlaps}
use Rattle.pep440_ranges.proofs.Places.{Place, start_place, end_place, value_place, below, valid_is, starts_is, ends_is, from_is, upto_is, rank_total, asym, le_le, le_lt, lt_le, apart_is, lt_lt}
use Rattle.pep440_ranges.proofs.Complement.{contains-append, either}
use Rattle.std.specs.declared.ops.Bound.TheVariants.{Included, Excluded, Unbounded}

module _ {V : Type 0} {cmp : V → V → Ordering} (o : IsTotalOrder cmp) where
  pub irr : (p : Place V) → below cmp p p ≡ false
  irr p = ap is_lt (tied_itself (rank_total o) p)

  -- ---- the greater start and the lesser end

  pub greater_left : (a b : Bound V) → below cmp (start_place (cond (starts_before cmp a b) b a)) (start_place a) ≡ false
  greater_left a b = go (starts_before cmp a b) refl
    where
      go : (t : Bool) → starts_before cmp a b ≡ t → below cmp (start_place (cond t b a)) (start_place a) ≡ false
      go true e = asym o (start_place a) (start_place b) (sym (starts_is cmp a b) ∙ e)
      go false e = irr (start_place a)

  pub greater_right : (a b : Bound V) → below cmp (start_place (cond (starts_before cmp a b) b a)) (start_place b) ≡ false
  greater_right a b = go (starts_before cmp a b) refl
    where
      go : (t : Bool) → starts_before cmp a b ≡ t → below cmp (start_place (cond t b a)) (start_place b) ≡ false
      go true e = irr (start_place b)
      go false e = sym (starts_is cmp a b) ∙ e

  pub lesser_left : (a b : Bound V) → below cmp (end_place a) (end_place (cond (ends_before cmp b a) b a)) ≡ false
  lesser_left a b = go (ends_before cmp b a) refl
    where
      go : (t : Bool) → ends_before cmp b a ≡ t → below cmp (end_place a) (end_place (cond t b a)) ≡ false
      go true e = asym o (end_place b) (end_place a) (sym (ends_is cmp b a) ∙ e)
      go false e = irr (end_place a)

  pub lesser_right : (a b : Bound V) → below cmp (end_place b) (end_place (cond (ends_before cmp b a) b a)) ≡ false
  lesser_right a b = go (ends_before cmp b a) refl
    where
      go : (t : Bool) → ends_before cmp b a ≡ t → below cmp (end_place b) (end_place (cond t b a)) ≡ false
      go true e = irr (end_place b)
      go false e = sym (ends_is cmp b a) ∙ e

  -- ---- what an overlap holds

  implied_and : (a b : Bool) → (b ≡ true → a ≡ true) → b ≡ a && b
  implied_and true b h = refl
  implied_and false true h = sym (h refl)
  implied_and false false h = refl

  implied_and' : (a b : Bool) → (a ≡ true → b ≡ true) → a ≡ a && b
  implied_and' true b h = sym (h refl)
  implied_and' false b h = refl

  -- v is from the greater start on if it is from both
  from_greater : (a b : Bound V) (v : V) → is_from_start cmp (cond (starts_before cmp a b) b a) v ≡ is_from_start cmp a v && is_from_start cmp b v
  from_greater a b v = go (starts_before cmp a b) refl
    where
      -- a ≤ b, and v is from b on
      weaker : (a b : Bound V) → below cmp (start_place b) (start_place a) ≡ false → is_from_start cmp b v ≡ true → is_from_start cmp a v ≡ true
      weaker a b le h = from_is o a v ∙ ap not (le_le o (start_place a) (start_place b) (value_place v) le (not-true (below cmp (value_place v) (start_place b)) (sym (from_is o b v) ∙ h)))

      go : (t : Bool) → starts_before cmp a b ≡ t → is_from_start cmp (cond t b a) v ≡ is_from_start cmp a v && is_from_start cmp b v
      go true e = implied_and _ _ (weaker a b (asym o (start_place a) (start_place b) (sym (starts_is cmp a b) ∙ e)))
      go false e = implied_and' _ _ (weaker b a (sym (starts_is cmp a b) ∙ e))

  upto_lesser : (a b : Bound V) (v : V) → is_up_to_end cmp (cond (ends_before cmp b a) b a) v ≡ is_up_to_end cmp a v && is_up_to_end cmp b v
  upto_lesser a b v = go (ends_before cmp b a) refl
    where
      -- v is up to a, and a ≤ b
      weaker : (a b : Bound V) → below cmp (end_place b) (end_place a) ≡ false → is_up_to_end cmp a v ≡ true → is_up_to_end cmp b v ≡ true
      weaker a b le h = upto_is cmp b v ∙ lt_le o (value_place v) (end_place a) (end_place b) (sym (upto_is cmp a v) ∙ h) le

      go : (t : Bool) → ends_before cmp b a ≡ t → is_up_to_end cmp (cond t b a) v ≡ is_up_to_end cmp a v && is_up_to_end cmp b v
      go true e = implied_and _ _ (weaker b a (asym o (end_place b) (end_place a) (sym (ends_is cmp b a) ∙ e)))
      go false e = implied_and' _ _ (weaker a b (sym (ends_is cmp b a) ∙ e))

  overlap_set : (s t : Segment V) (v : V) → lies_in cmp (overlap cmp s t) v ≡ lies_in cmp s v && lies_in cmp t v
  overlap_set s t v = both _ _ _ _ (from_greater s.0 t.0 v) (upto_lesser s.1 t.1 v) ∙ swap_and (is_from_start cmp s.0 v) (is_from_start cmp t.0 v) (is_up_to_end cmp s.1 v) (is_up_to_end cmp t.1 v)
    where
      both : (a b c d : Bool) → a ≡ c → b ≡ d → a && b ≡ c && d
      both a b c d p q = cc

      swap_and : (a b c d : Bool) → (a && b) && (c && d) ≡ (a && c) && (b && d)
      swap_and true true c d = refl
      swap_and true false true d = refl
      swap_and true false false d = refl
      swap_and false b c d = refl

  -- what holds a value is valid
  pub lies_valid : (s : Segment V) (v : V) → lies_in cmp s v ≡ true → is_valid_segment cmp s ≡ true
  lies_valid s v h =
      let both = and_parts (is_from_start cmp s.0 v) (is_up_to_end cmp s.1 v) h in
      valid_is cmp s.0 s.1 ∙ le_lt o (start_place s.0) (value_place v) (end_place s.1) (not-true (below cmp (value_place v) (start_place s.0)) (sym (from_is o s.0 v) ∙ both.0)) (sym (upto_is cmp s.1 v) ∙ both.1)

  valid_set : (ss : List (Segment V)) (v : V) → contains cmp (filter (is_valid_segment cmp) ss) v ≡ contains cmp ss v
  valid_set [] v = refl
  valid_set (s ∷ ss) v = go (is_valid_segment cmp s) (lies_in cmp s v) refl (lies_valid s v) (valid_set ss v)
    where
      go : (b l : Bool) → lies_in cmp s v ≡ l → (l ≡ true → b ≡ true) → contains cmp (filter (is_valid_segment cmp) ss) v ≡ contains cmp ss v →
          contains cmp (cond b (s ∷ filter (is_valid_segment cmp) ss) (filter (is_valid_segment cmp) ss)) v ≡ l || contains cmp ss v
      go true l e h ih = either _ _ _ _ e ih
      go false true e h ih = absurd (true≢false (sym (h refl)))
      go false false e h ih = ih

  row_set : (s : Segment V) (ts : List (Segment V)) (v : V) → contains cmp (map (overlap cmp s) ts) v ≡ lies_in cmp s v && contains cmp ts v
  row_set s [] v = and_false (lies_in cmp s v)
    where
      and_false : (a : Bool) → false ≡ a && false
      and_false true = refl
      and_false false = refl
  row_set s (t ∷ ts) v = either _ _ _ _ (overlap_set s t v) (row_set s ts v) ∙ spread (lies_in cmp s v) (lies_in cmp t v) (contains cmp ts v)
    where
      spread : (a b c : Bool) → (a && b) || (a && c) ≡ a && (b || c)
      spread true b c = refl
      spread false b c = refl

  -- the overlaps hold what both hold
  pub overlaps_set : (ss ts : List (Segment V)) (v : V) → contains cmp (overlaps cmp ss ts) v ≡ contains cmp ss v && contains cmp ts v
  overlaps_set [] ts v = refl
  overlaps_set (s ∷ ss) ts v =
      contains-append cmp (overlaps_with cmp s ts) (overlaps cmp ss ts) v
      ∙ either _ _ _ _ (valid_set (map (overlap cmp s) ts) v ∙ row_set s ts v) (overlaps_set ss ts v)
      ∙ spread (lies_in cmp s v) (contains cmp ss v) (contains cmp ts v)
    where
      spread : (a b c : Bool) → (a && c) || (b && c) ≡ (a || b) && c
      spread true true true = refl
      spread true false true = refl
      spread true true false = refl
      spread true false false = refl
      spread false b c = refl

-- ---- the steps of a merge: which of all overlaps are not there, and what is left once a segment is taken away

pub taken : {A : Type 0} (b : Bool) (x y : A) → b ≡ true → cond b x y ≡ x
taken true x y h = refl
taken false x y h = absurd (true≢false (sym h))

pub skipped : {A : Type 0} (b : Bool) (x y : A) → b ≡ false → cond b x y ≡ y
skipped true x y h = absurd (true≢false h)
skipped false x y h = refl

module _ {V : Type 0} {cmp : V → V → Ordering} (o : IsTotalOrder cmp) where
  -- ---- overlaps that are not there

  -- t starts where s has ended
  past_left : (s t : Segment V) → below cmp (start_place t.0) (end_place s.1) ≡ false → is_valid_segment cmp (overlap cmp s t) ≡ false
  past_left s t h =
      let m = overlap cmp s t in
      valid_is cmp m.0 m.1
      ∙ le_le o (end_place m.1) (start_place t.0) (start_place m.0)
      (le_le o (end_place m.1) (end_place s.1) (start_place t.0) (lesser_left o s.1 t.1) h)
      (greater_right o s.0 t.0)

  past_right : (s t : Segment V) → below cmp (start_place s.0) (end_place t.1) ≡ false → is_valid_segment cmp (overlap cmp s t) ≡ false
  past_right s t h =
      let m = overlap cmp s t in
      valid_is cmp m.0 m.1
      ∙ le_le o (end_place m.1) (start_place s.0) (start_place m.0)
      (le_le o (end_place m.1) (end_place t.1) (start_place s.0) (lesser_right o s.1 t.1) h)
      (greater_left o s.0 t.0)

  -- u ≤ e, and e is apart from s
  after_start : (u : Place V) (e : Bound V) (s : Segment V) → below cmp (end_place e) u ≡ false → is_apart cmp e s.0 ≡ true → below cmp (start_place s.0) u ≡ false
  after_start u e s h a = asym o u (start_place s.0) (le_lt o u (end_place e) (start_place s.0) h (sym (apart_is cmp e s.0) ∙ a))

  after_end : (u : Place V) (e : Bound V) (s : Segment V) → below cmp (end_place e) u ≡ false → is_apart cmp e s.0 ≡ true → is_valid cmp s.0 s.1 ≡ true → below cmp (end_place s.1) u ≡ false
  after_end u e s h a ok =
      asym o u (end_place s.1) (lt_lt o u (start_place s.0) (end_place s.1) (le_lt o u (end_place e) (start_place s.0) h (sym (apart_is cmp e s.0) ∙ a)) (sym (valid_is cmp s.0 s.1) ∙ ok))

  row_none : (s : Segment V) (e : Bound V) (ts : List (Segment V)) → below cmp (end_place e) (end_place s.1) ≡ false → IsRangeAfter cmp e ts → overlaps_with cmp s ts ≡ []
  row_none s e [] h r = refl
  row_none s e (t ∷ ts) h r =
      skipped _ _ _ (past_left s t (after_start (end_place s.1) e t h r.0)) ∙ row_none s t.1 ts (after_end (end_place s.1) e t h r.0 r.1) r.2

  column_none : (t : Segment V) (e : Bound V) (ss ts : List (Segment V)) → below cmp (end_place e) (end_place t.1) ≡ false → IsRangeAfter cmp e ss → overlaps cmp ss (t ∷ ts) ≡ overlaps cmp ss ts
  column_none t e [] ts h r = refl
  column_none t e (s ∷ ss) ts h r =
      ap (λ row. row ++ overlaps cmp ss (t ∷ ts)) (skipped _ _ _ (past_right s t (after_start (end_place t.1) e s h r.0)))
      ∙ ap (λ rest. overlaps_with cmp s ts ++ rest) (column_none t s.1 ss ts (after_end (end_place t.1) e s h r.0 r.1) r.2)

  -- ---- the steps of a merge

  -- s ends first, so it overlaps no later one
  pub step_left : (s t : Segment V) (ss ts : List (Segment V)) → ends_before cmp t.1 s.1 ≡ false → IsRangeAfter cmp t.1 ts →
      overlaps cmp (s ∷ ss) (t ∷ ts) ≡ overlaps_with cmp s (t ∷ []) ++ overlaps cmp ss (t ∷ ts)
  step_left s t ss ts h r =
      ap (λ row. cond (is_valid_segment cmp (overlap cmp s t)) (overlap cmp s t ∷ row) row ++ overlaps cmp ss (t ∷ ts)) (row_none s t.1 ts (sym (ends_is cmp t.1 s.1) ∙ h) r)

  -- t does
  pub step_right : (s t : Segment V) (ss ts : List (Segment V)) → ends_before cmp t.1 s.1 ≡ true → IsRangeAfter cmp s.1 ss →
      overlaps cmp (s ∷ ss) (t ∷ ts) ≡ overlaps_with cmp s (t ∷ []) ++ overlaps cmp (s ∷ ss) ts
  step_right s t ss ts h r =
      ap (λ rest. overlaps_with cmp s (t ∷ ts) ++ rest) (column_none t s.1 ss ts (asym o (end_place t.1) (end_place s.1) (sym (ends_is cmp t.1 s.1) ∙ h)) r)
      ∙ split (is_valid_segment cmp (overlap cmp s t)) (overlap cmp s t) (overlaps_with cmp s ts) (overlaps cmp ss ts)
    where
      split : (b : Bool) (x : Segment V) (xs ys : List (Segment V)) → cond b (x ∷ xs) xs ++ ys ≡ cond b (x ∷ []) [] ++ (xs ++ ys)
      split true x xs ys = refl
      split false x xs ys = refl

  pub overlaps_nil : (ss : List (Segment V)) → overlaps cmp ss [] ≡ []
  overlaps_nil [] = refl
  overlaps_nil (s ∷ ss) = overlaps_nil ss

-- ---- the overlaps of two ranges, by the induction of a merge: they are a range, and how many they are

module _ {V : Type 0} {cmp : V → V → Ordering} (o : IsTotalOrder cmp) where
  -- ---- a merge's induction

  -- the segments are a range, from a place on
  abbrev pub After : Place V → List (Segment V) → Type 0
  After p [] = Unit {0}
  After p (s ∷ ss) = IsTrue (below cmp p (start_place s.0)) × IsTrue (is_valid cmp s.0 s.1) × IsRangeAfter cmp s.1 ss

  from_end : (e : Bound V) (ss : List (Segment V)) → IsRangeAfter cmp e ss → After (end_place e) ss
  from_end e [] r = tt
  from_end e (s ∷ ss) r = (sym (apart_is cmp e s.0) ∙ r.0, r.1, r.2)

  to_end : (e : Bound V) (ss : List (Segment V)) → After (end_place e) ss → IsRangeAfter cmp e ss
  to_end e [] r = tt
  to_end e (s ∷ ss) r = (apart_is cmp e s.0 ∙ r.0, r.1, r.2)

  abbrev floor : Place V
  floor = (0, None, 0)

  from_floor : (ss : List (Segment V)) → IsRange cmp ss → After floor ss
  from_floor [] r = tt
  from_floor ((Unbounded, e) ∷ ss) r = (refl, r.0, r.1)
  from_floor ((Included x, e) ∷ ss) r = (refl, r.0, r.1)
  from_floor ((Excluded x, e) ∷ ss) r = (refl, r.0, r.1)

  to_range : (p : Place V) (ss : List (Segment V)) → After p ss → IsRange cmp ss
  to_range p [] r = tt
  to_range p (s ∷ ss) r = (r.1, r.2)

  -- p ≤ q
  weaken : (p q : Place V) (ss : List (Segment V)) → below cmp q p ≡ false → After q ss → After p ss
  weaken p q [] h r = tt
  weaken p q (s ∷ ss) h r = (le_lt o p q (start_place s.0) h r.0, r.1, r.2)

  -- without its first segment
  rest_of : (p : Place V) (s : Segment V) (ss : List (Segment V)) → After p (s ∷ ss) → After p ss
  rest_of p s ss r = weaken p (end_place s.1) ss (asym o p (end_place s.1) (lt_lt o p (start_place s.0) (end_place s.1) r.0 (sym (valid_is cmp s.0 s.1) ∙ r.1))) (from_end s.1 ss r.2)

  module _ (P : List (Segment V) → List (Segment V) → Type 0)
      (none_left : (ts : List (Segment V)) → P [] ts) (none_right : (ss : List (Segment V)) → P ss [])
      (left : (s t : Segment V) (ss ts : List (Segment V)) → ends_before cmp t.1 s.1 ≡ false → P ss (t ∷ ts) → P (s ∷ ss) (t ∷ ts))
      (right : (s t : Segment V) (ss ts : List (Segment V)) → ends_before cmp t.1 s.1 ≡ true → P (s ∷ ss) ts → P (s ∷ ss) (t ∷ ts)) where
    along : (s : Segment V) (ss : List (Segment V)) → ((ts : List (Segment V)) → P ss ts) → (ts : List (Segment V)) → P (s ∷ ss) ts
    along s ss ih [] = none_right (s ∷ ss)
    along s ss ih (t ∷ ts) = go (ends_before cmp t.1 s.1) refl (ih (t ∷ ts)) (along s ss ih ts)
      where
        go : (b : Bool) → ends_before cmp t.1 s.1 ≡ b → P ss (t ∷ ts) → P (s ∷ ss) ts → P (s ∷ ss) (t ∷ ts)
        go true e l r = right s t ss ts e r
        go false e l r = left s t ss ts e l

    merged : (ss ts : List (Segment V)) → P ss ts
    merged [] ts = none_left ts
    merged (s ∷ ss) ts = along s ss (merged ss) ts

  -- ---- the overlaps are a range

  -- an overlap, if it is valid, before what comes after it
  prepend : (p : Place V) (m : Segment V) (rest : List (Segment V)) (b : Bool) → is_valid_segment cmp m ≡ b → below cmp p (start_place m.0) ≡ true →
      After p rest → After (end_place m.1) rest → After p (cond b (m ∷ []) [] ++ rest)
  prepend p m rest true e h a c = (h, e, to_end m.1 rest c)
  prepend p m rest false e h a c = a

  abbrev BothAfter : List (Segment V) → List (Segment V) → Type 0
  BothAfter ss ts = (p q : Place V) → After p ss → After q ts → After p (overlaps cmp ss ts) × After q (overlaps cmp ss ts)

  joined : (s t : Segment V) (ss ts : List (Segment V)) (p q : Place V) → After p (s ∷ ss) → After q (t ∷ ts) → (rest : List (Segment V)) →
      After p rest × After q rest → After (end_place (overlap cmp s t).1) rest → After p (overlaps_with cmp s (t ∷ []) ++ rest) × After q (overlaps_with cmp s (t ∷ []) ++ rest)
  joined s t ss ts p q a b rest r c =
      let m = overlap cmp s t in (
        prepend p m rest (is_valid_segment cmp m) refl (lt_le o p (start_place s.0) (start_place m.0) a.0 (greater_left o s.0 t.0)) r.0 c,
        prepend q m rest (is_valid_segment cmp m) refl (lt_le o q (start_place t.0) (start_place m.0) b.0 (greater_right o s.0 t.0)) r.1 c,
      )

  both_after : (ss ts : List (Segment V)) → BothAfter ss ts
  both_after = merged BothAfter
      (λ ts p q a b. (tt, tt))
      (λ ss p q a b. let e = sym (overlaps_nil o ss) in (subst (After p) e tt, subst (After q) e tt))
      (λ s t ss ts h ih p q a b.
      let rest = overlaps cmp ss (t ∷ ts) in
      let e = sym (step_left o s t ss ts h b.2) in
      let m = overlap cmp s t in
      let c : After (end_place m.1) rest = weaken (end_place m.1) (end_place s.1) rest (lesser_left o s.1 t.1) (ih (end_place s.1) q (from_end s.1 ss a.2) b).0 in
      let r = joined s t ss ts p q a b rest (ih p q (rest_of p s ss a) b) c in
      (subst (After p) e r.0, subst (After q) e r.1))
      (λ s t ss ts h ih p q a b.
      let rest = overlaps cmp (s ∷ ss) ts in
      let e = sym (step_right o s t ss ts h a.2) in
      let m = overlap cmp s t in
      let c : After (end_place m.1) rest = weaken (end_place m.1) (end_place t.1) rest (lesser_right o s.1 t.1) (ih p (end_place t.1) a (from_end t.1 ts b.2)).1 in
      let r = joined s t ss ts p q a b rest (ih p q a (rest_of q t ts b)) c in
      (subst (After p) e r.0, subst (After q) e r.1))

  pub overlaps_range : (ss ts : List (Segment V)) → IsRange cmp ss → IsRange cmp ts → IsRange cmp (overlaps cmp ss ts)
  overlaps_range ss ts r q = to_range floor (overlaps cmp ss ts) (both_after ss ts floor floor (from_floor ss r) (from_floor ts q)).0

  -- ---- how many there are

  abbrev Few : List (Segment V) → List (Segment V) → Type 0
  Few ss ts = (p q : Place V) → After p ss → After q ts → length (overlaps cmp ss ts) ≤ length ss + length ts - 1

  one_more : (s t : Segment V) (rest : List (Segment V)) → length (overlaps_with cmp s (t ∷ []) ++ rest) ≤ length rest + 1
  one_more s t rest = go (is_valid_segment cmp (overlap cmp s t))
    where
      go : (b : Bool) → length (cond b (overlap cmp s t ∷ []) [] ++ rest) ≤ length rest + 1
      go true = omega arith
      go false = omega arith

  few : (ss ts : List (Segment V)) → Few ss ts
  few = merged Few
      (λ ts p q a b. omega arith)
      (λ ss p q a b. rw (overlaps_nil o ss) (omega arith))
      (λ s t ss ts h ih p q a b. rw (step_left o s t ss ts h b.2) (omega (arith, one_more s t (overlaps cmp ss (t ∷ ts)), ih p q (rest_of p s ss a) b)))
      (λ s t ss ts h ih p q a b. rw (step_right o s t ss ts h a.2) (omega (arith, one_more s t (overlaps cmp (s ∷ ss) ts), ih p q a (rest_of q t ts b))))

  pub overlaps_count : (ss ts : List (Segment V)) → IsRange cmp ss → IsRange cmp ts → length (overlaps cmp ss ts) ≤ length ss + length ts - 1
  overlaps_count ss ts r q = few ss ts floor floor (from_floor ss r) (from_floor ts q)
