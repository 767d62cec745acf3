-- The gaps of a range are a range of what it does not contain.
use Rattle.std.proofs.lemmas.Bool.{not-false}
use Rattle.std.proofs.Common.{◌≡◌, ◌+◌, ◌≤◌, Bool, true, false, not, ◌&&◌, ◌||◌, List, [], ◌∷◌, ◌++◌, length, refl, sym, ap, ◌∙◌, IsTrue, arith}
use mathlib.Core.Bool.{true≢false}
use Rattle.std.proofs.Math.Bool.{or-false}
use Rattle.std.specs.declared.cmp.Ordering.{Ordering}
use Rattle.std.specs.declared.cmp.Ordering.TheVariants.{Less, Equal, Greater}
use Rattle.std.specs.declared.ops.Bound.{Bound}
use Rattle.std.specs.declared.ops.Bound.TheVariants.{Included, Excluded, Unbounded}
use Rattle.std.specs.Cmp.{IsTotalOrder}
use Rattle.std.specs.Ordering.{is_lt, is_le, ordering_reverse}
use Rattle.pep440_ranges.specs.BoundOrder.{flipped_bound, is_valid, is_apart, is_from_start, is_up_to_end}
use Rattle.pep440_ranges.specs.RangeSegments.{Segment, lies_in, contains, IsRange, IsRangeAfter}
use Rattle.pep440_ranges.specs.Complement.{gaps, gaps_after, gap_before}
use Rattle.pep440_ranges.proofs.Places.{start_place, end_place, value_place, below, valid_is, apart_is, from_is, upto_is, lt_lt}

pub either : (a b c d : Bool) → a ≡ b → c ≡ d → a || c ≡ b || d
either a b c d p q = cc

module _ {V : Type 0} (cmp : V → V → Ordering) where
  pub contains-append : (ss ts : List (Segment V)) (v : V) → contains cmp (ss ++ ts) v ≡ contains cmp ss v || contains cmp ts v
  contains-append [] ts v = refl
  contains-append (s ∷ ss) ts v = or_assoc (lies_in cmp s v) _ _ (contains-append ss ts v)
    where
      or_assoc : (a b c : Bool) {d : Bool} → d ≡ b || c → a || d ≡ (a || b) || c
      or_assoc true b c e = refl
      or_assoc false b c e = e

module _ {V : Type 0} {cmp : V → V → Ordering} (o : IsTotalOrder cmp) where
  -- from before the start on, v is up to the end
  pub valid_upto : (s e : Bound V) (v : V) → is_valid cmp s e ≡ true → is_from_start cmp s v ≡ false → is_up_to_end cmp e v ≡ true
  valid_upto s e v ok h =
      upto_is cmp e v ∙ lt_lt o (value_place v) (start_place s) (end_place e) (not-false (below cmp (value_place v) (start_place s)) (sym (from_is o s v) ∙ h)) (sym (valid_is cmp s e) ∙ ok)

  -- what is up to an end is before the next start
  pub apart_from : (e s : Bound V) (v : V) → is_apart cmp e s ≡ true → is_up_to_end cmp e v ≡ true → is_from_start cmp s v ≡ false
  apart_from e s v ok h = from_is o s v ∙ ap not (lt_lt o (value_place v) (end_place e) (start_place s) (sym (upto_is cmp e v) ∙ h) (sym (apart_is cmp e s) ∙ ok))

  -- what lies in a later segment is past the end
  pub past_end : (e : Bound V) (ss : List (Segment V)) (v : V) → IsRangeAfter cmp e ss → is_up_to_end cmp e v ≡ true → contains cmp ss v ≡ false
  past_end e [] v r h = refl
  past_end e (s ∷ ss) v r h =
      neither _ _ _ (apart_from e s.0 v r.0 h) (past_end s.1 ss v r.2 (valid_upto s.0 s.1 v r.1 (apart_from e s.0 v r.0 h)))
    where
      neither : (a b c : Bool) → a ≡ false → c ≡ false → (a && b) || c ≡ false
      neither true b c p q = absurd (true≢false p)
      neither false b c p q = q

  back_le : (r : Ordering) → is_le (ordering_reverse r) ≡ not (is_lt r)
  back_le Less = refl
  back_le Equal = refl
  back_le Greater = refl

  back_lt : (r : Ordering) → is_lt (ordering_reverse r) ≡ not (is_le r)
  back_lt Less = refl
  back_lt Equal = refl
  back_lt Greater = refl

  -- a bounded end, turned, starts what lies past it, and a bounded start ends what lies before it
  abbrev pub IsBounded : Bound V → Type 0
  IsBounded Unbounded = ⊥
  IsBounded (Included x) = Unit {0}
  IsBounded (Excluded x) = Unit {0}

  pub from_turned : (e : Bound V) (v : V) → IsBounded e → is_from_start cmp (flipped_bound e) v ≡ not (is_up_to_end cmp e v)
  from_turned Unbounded v b = absurd b
  from_turned (Included x) v b = ap is_lt (o.antisymm x v) ∙ back_lt (cmp v x)
  from_turned (Excluded x) v b = ap is_le (o.antisymm x v) ∙ back_le (cmp v x)

  pub upto_turned : (s : Bound V) (v : V) → IsBounded s → is_up_to_end cmp (flipped_bound s) v ≡ not (is_from_start cmp s v)
  upto_turned Unbounded v b = absurd b
  upto_turned (Included x) v b = ap is_lt (o.antisymm v x) ∙ back_lt (cmp x v)
  upto_turned (Excluded x) v b = ap is_le (o.antisymm v x) ∙ back_le (cmp x v)

  pub bounded_end : (e s : Bound V) → is_apart cmp e s ≡ true → IsBounded e
  bounded_end Unbounded s h = absurd (true≢false (sym h))
  bounded_end (Included x) s h = tt
  bounded_end (Excluded x) s h = tt

  pub bounded_start : (e s : Bound V) → is_apart cmp e s ≡ true → IsBounded s
  bounded_start Unbounded Unbounded h = absurd (true≢false (sym h))
  bounded_start (Included x) Unbounded h = absurd (true≢false (sym h))
  bounded_start (Excluded x) Unbounded h = absurd (true≢false (sym h))
  bounded_start e (Included x) h = tt
  bounded_start e (Excluded x) h = tt

  -- one gap and the rest: a = up to the end before, b = from the segment's start, c = up to its end, d = in a later one
  one_gap : (a b c d : Bool) → (a ≡ true → b ≡ false) → (b ≡ false → c ≡ true) → (c ≡ true → d ≡ false) → (not a && not b) || (not c && not d) ≡ not a && not ((b && c) || d)
  one_gap true true c d ab bc cd = absurd (true≢false (ab refl))
  one_gap true false true d ab bc cd = refl
  one_gap true false false d ab bc cd = absurd (true≢false (sym (bc refl)))
  one_gap false true true d ab bc cd = refl
  one_gap false true false d ab bc cd = refl
  one_gap false false true true ab bc cd = absurd (true≢false (cd refl))
  one_gap false false true false ab bc cd = refl
  one_gap false false false d ab bc cd = absurd (true≢false (sym (bc refl)))

  and_true : (b : Bool) → (b && true) || false ≡ b && true
  and_true true = refl
  and_true false = refl

  both_of : (a b c d e f : Bool) → a ≡ c → b ≡ d → e ≡ f → (a && b) || e ≡ (c && d) || f
  both_of a b c d e f p q r = cc

  between : (e : Bound V) (s : Segment V) (ss : List (Segment V)) (v : V) → IsRangeAfter cmp e (s ∷ ss) →
      contains cmp (gaps_after s.1 ss) v ≡ not (is_up_to_end cmp s.1 v) && not (contains cmp ss v) →
      contains cmp ((flipped_bound e, flipped_bound s.0) ∷ gaps_after s.1 ss) v ≡ not (is_up_to_end cmp e v) && not (contains cmp (s ∷ ss) v)
  between e s ss v r later =
      both_of _ _ _ _ _ _ (from_turned e v (bounded_end e s.0 r.0)) (upto_turned s.0 v (bounded_start e s.0 r.0)) later
      ∙ one_gap (is_up_to_end cmp e v) (is_from_start cmp s.0 v) (is_up_to_end cmp s.1 v) (contains cmp ss v)
      (apart_from e s.0 v r.0) (valid_upto s.0 s.1 v r.1) (past_end s.1 ss v r.2)

  pub gaps_after_set : (e : Bound V) (ss : List (Segment V)) (v : V) → IsRangeAfter cmp e ss →
      contains cmp (gaps_after e ss) v ≡ not (is_up_to_end cmp e v) && not (contains cmp ss v)
  gaps_after_set Unbounded [] v r = refl
  gaps_after_set (Included x) [] v r = and_true (is_lt (cmp x v)) ∙ ap (λ b. b && true) (from_turned (Included x) v tt)
  gaps_after_set (Excluded x) [] v r = and_true (is_le (cmp x v)) ∙ ap (λ b. b && true) (from_turned (Excluded x) v tt)
  gaps_after_set Unbounded (s ∷ ss) v r = absurd (true≢false (sym r.0))
  gaps_after_set (Included x) (s ∷ ss) v r = between (Included x) s ss v r (gaps_after_set s.1 ss v r.2)
  gaps_after_set (Excluded x) (s ∷ ss) v r = between (Excluded x) s ss v r (gaps_after_set s.1 ss v r.2)

  before_set : (s : Bound V) (v : V) → contains cmp (gap_before s) v ≡ not (is_from_start cmp s v)
  before_set Unbounded v = refl
  before_set (Included x) v = or-false _ ∙ upto_turned (Included x) v tt
  before_set (Excluded x) v = or-false _ ∙ upto_turned (Excluded x) v tt

  -- the gaps hold what the range does not
  pub gaps_set : (ss : List (Segment V)) (v : V) → IsRange cmp ss → contains cmp (gaps ss) v ≡ not (contains cmp ss v)
  gaps_set [] v r = refl
  gaps_set (s ∷ ss) v r =
      contains-append cmp (gap_before s.0) (gaps_after s.1 ss) v
      ∙ either _ _ _ _ (before_set s.0 v) (gaps_after_set s.1 ss v r.1)
      ∙ first_gap (is_from_start cmp s.0 v) (is_up_to_end cmp s.1 v) (contains cmp ss v) (valid_upto s.0 s.1 v r.0) (past_end s.1 ss v r.1)
    where
      first_gap : (b c d : Bool) → (b ≡ false → c ≡ true) → (c ≡ true → d ≡ false) → not b || (not c && not d) ≡ not ((b && c) || d)
      first_gap true true d bc cd = refl
      first_gap true false d bc cd = refl
      first_gap false true true bc cd = absurd (true≢false (cd refl))
      first_gap false true false bc cd = refl
      first_gap false false d bc cd = absurd (true≢false (sym (bc refl)))

  -- ---- the gaps are a range

  turned_valid : (e s : Bound V) → is_apart cmp e s ≡ true → is_valid cmp (flipped_bound e) (flipped_bound s) ≡ true
  turned_valid Unbounded s h = absurd (true≢false (sym h))
  turned_valid (Included x) Unbounded h = refl
  turned_valid (Included x) (Included y) h = h
  turned_valid (Included x) (Excluded y) h = h
  turned_valid (Excluded x) Unbounded h = refl
  turned_valid (Excluded x) (Included y) h = h
  turned_valid (Excluded x) (Excluded y) h = h

  -- the gap from this end on is apart from the end f
  abbrev LeavesGap : Bound V → Bound V → Type 0
  LeavesGap f Unbounded = Unit {0}
  LeavesGap f (Included x) = IsTrue (is_apart cmp f (Excluded x))
  LeavesGap f (Excluded x) = IsTrue (is_apart cmp f (Included x))

  turned_apart : (s e : Bound V) → IsBounded s → is_valid cmp s e ≡ true → LeavesGap (flipped_bound s) e
  turned_apart Unbounded e b h = absurd b
  turned_apart (Included x) Unbounded b h = tt
  turned_apart (Included x) (Included y) b h = h
  turned_apart (Included x) (Excluded y) b h = h
  turned_apart (Excluded x) Unbounded b h = tt
  turned_apart (Excluded x) (Included y) b h = h
  turned_apart (Excluded x) (Excluded y) b h = h

  gaps_after_range : (f e : Bound V) (ss : List (Segment V)) → LeavesGap f e → IsRangeAfter cmp e ss → IsRangeAfter cmp f (gaps_after e ss)
  gaps_after_range f Unbounded [] l r = tt
  gaps_after_range f (Included x) [] l r = (l, refl, tt)
  gaps_after_range f (Excluded x) [] l r = (l, refl, tt)
  gaps_after_range f Unbounded (s ∷ ss) l r = absurd (true≢false (sym r.0))
  gaps_after_range f (Included x) (s ∷ ss) l r =
      (l, turned_valid (Included x) s.0 r.0, gaps_after_range (flipped_bound s.0) s.1 ss (turned_apart s.0 s.1 (bounded_start (Included x) s.0 r.0) r.1) r.2)
  gaps_after_range f (Excluded x) (s ∷ ss) l r =
      (l, turned_valid (Excluded x) s.0 r.0, gaps_after_range (flipped_bound s.0) s.1 ss (turned_apart s.0 s.1 (bounded_start (Excluded x) s.0 r.0) r.1) r.2)

  -- without a segment before
  gaps_after_first : (e : Bound V) (ss : List (Segment V)) → IsRangeAfter cmp e ss → IsRange cmp (gaps_after e ss)
  gaps_after_first Unbounded [] r = tt
  gaps_after_first (Included x) [] r = (refl, tt)
  gaps_after_first (Excluded x) [] r = (refl, tt)
  gaps_after_first Unbounded (s ∷ ss) r = absurd (true≢false (sym r.0))
  gaps_after_first (Included x) (s ∷ ss) r =
      (turned_valid (Included x) s.0 r.0, gaps_after_range (flipped_bound s.0) s.1 ss (turned_apart s.0 s.1 (bounded_start (Included x) s.0 r.0) r.1) r.2)
  gaps_after_first (Excluded x) (s ∷ ss) r =
      (turned_valid (Excluded x) s.0 r.0, gaps_after_range (flipped_bound s.0) s.1 ss (turned_apart s.0 s.1 (bounded_start (Excluded x) s.0 r.0) r.1) r.2)

  pub gaps_range : (ss : List (Segment V)) → IsRange cmp ss → IsRange cmp (gaps ss)
  gaps_range [] r = (refl, tt)
  gaps_range ((Unbounded, e) ∷ ss) r = gaps_after_first e ss r.1
  gaps_range ((Included x, e) ∷ ss) r = (refl, gaps_after_range (Excluded x) e ss (turned_apart (Included x) e tt r.0) r.1)
  gaps_range ((Excluded x, e) ∷ ss) r = (refl, gaps_after_range (Included x) e ss (turned_apart (Excluded x) e tt r.0) r.1)

-- ---- and there is at most one more

gaps_after_count : {V : Type 0} (e : Bound V) (ss : List (Segment V)) → length (gaps_after e ss) ≤ length ss + 1
gaps_after_count Unbounded [] = omega arith
gaps_after_count (Included x) [] = omega arith
gaps_after_count (Excluded x) [] = omega arith
gaps_after_count Unbounded (s ∷ ss) = omega (arith, gaps_after_count s.1 ss)
gaps_after_count (Included x) (s ∷ ss) = omega (arith, gaps_after_count s.1 ss)
gaps_after_count (Excluded x) (s ∷ ss) = omega (arith, gaps_after_count s.1 ss)

pub gaps_count : {V : Type 0} (ss : List (Segment V)) → length (gaps ss) ≤ length ss + 1
gaps_count [] = omega arith
gaps_count ((Unbounded, e) ∷ ss) = omega (arith, gaps_after_count e ss)
gaps_count ((Included x, e) ∷ ss) = omega (arith, gaps_after_count e ss)
gaps_count ((Excluded x, e) ∷ ss) = omega (arith, gaps_after_count e ss)
