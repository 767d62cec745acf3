-- Of the segments of a range, one half does not decide whether a value is contained.
use Rattle.std.proofs.Common.{◌≡◌, ◌-◌, ◌/◌, ℕ, Bool, true, false, not, ◌||◌, List, [], ◌∷◌, ◌++◌, arith, length, take, drop, map, refl, sym, ap, ◌∙◌, subst}
use mathlib.Core.Bool.{true≢false}
use Rattle.std.proofs.lemmas.Bool.{and_left, and_right, not-false, or_right}
use Rattle.std.proofs.lemmas.List.{length-drop, map-append, take-append-drop}
use Rattle.std.specs.Cmp.{IsTotalOrder}
use Rattle.std.specs.declared.cmp.Ordering.{Ordering}
use Rattle.std.specs.declared.ops.Bound.{Bound}
use Rattle.pep440_ranges.proofs.Places.{apart_is, asym, below, end_place, from_is, lt_le, lt_lt, start_place, upto_is, valid_is, value_place}
use Rattle.pep440_ranges.specs.BoundOrder.{is_from_start, is_up_to_end}
use Rattle.pep440_ranges.specs.RangeSegments.{IsRange, IsRangeAfter, Segment, contains, lies_in}

no_or : (a b c : Bool) → a ≡ false → b ≡ c → a || b ≡ c
no_or true b c h k = absurd (true≢false h)
no_or false b c h k = k

module _ {V : Type 0} {cmp : V → V → Ordering} (o : IsTotalOrder cmp) where
  -- ---- before a segment starts, it and those after it do not contain v

  none_after : (v : V) (e : Bound V) (ts : List (Segment V)) → IsRangeAfter cmp e ts → below cmp (value_place v) (end_place e) ≡ true → contains cmp ts v ≡ false
  none_after v e [] r h = refl
  none_after v e (t ∷ ts) r h =
      let starts = lt_lt o (value_place v) (end_place e) (start_place t.0) h (sym (apart_is cmp e t.0) ∙ r.0) in
      let ends = lt_lt o (value_place v) (start_place t.0) (end_place t.1) starts (sym (valid_is cmp t.0 t.1) ∙ r.1) in
      no_or (lies_in cmp t v) (contains cmp ts v) false (and_left (is_from_start cmp t.0 v) _ (from_is o t.0 v ∙ ap not starts)) (none_after v t.1 ts r.2 ends)

  none_from : (v : V) (s : Segment V) (ts : List (Segment V)) → IsRange cmp (s ∷ ts) → is_from_start cmp s.0 v ≡ false → contains cmp (s ∷ ts) v ≡ false
  none_from v s ts r h =
      let starts : below cmp (value_place v) (start_place s.0) ≡ true = not-false _ (sym (from_is o s.0 v) ∙ h) in
      let ends = lt_lt o (value_place v) (start_place s.0) (end_place s.1) starts (sym (valid_is cmp s.0 s.1) ∙ r.0) in
      no_or (lies_in cmp s v) (contains cmp ts v) false (and_left (is_from_start cmp s.0 v) _ h) (none_after v s.1 ts r.1 ends)

  -- ---- after a segment has ended, it and those before it do not contain v

  reaches : (e : Bound V) (front : List (Segment V)) (s : Segment V) (back : List (Segment V)) → IsRangeAfter cmp e (front ++ s ∷ back) → below cmp (end_place e) (end_place s.1) ≡ true
  reaches e [] s back r = lt_lt o (end_place e) (start_place s.0) (end_place s.1) (sym (apart_is cmp e s.0) ∙ r.0) (sym (valid_is cmp s.0 s.1) ∙ r.1)
  reaches e (f ∷ front) s back r =
      lt_lt o (end_place e) (end_place f.1) (end_place s.1)
      (lt_lt o (end_place e) (start_place f.0) (end_place f.1) (sym (apart_is cmp e f.0) ∙ r.0) (sym (valid_is cmp f.0 f.1) ∙ r.1))
      (reaches f.1 front s back r.2)

  -- f ends before s, which has ended
  ended : (v : V) (f s : Segment V) → below cmp (end_place f.1) (end_place s.1) ≡ true → is_up_to_end cmp s.1 v ≡ false → lies_in cmp f v ≡ false
  ended v f s h k =
      let past = lt_le o (end_place f.1) (end_place s.1) (value_place v) h (sym (upto_is cmp s.1 v) ∙ k) in
      and_right (is_from_start cmp f.0 v) _ (upto_is cmp f.1 v ∙ asym o (end_place f.1) (value_place v) past)

  past_after : (v : V) (e : Bound V) (front : List (Segment V)) (s : Segment V) (back : List (Segment V)) → IsRangeAfter cmp e (front ++ s ∷ back) → is_up_to_end cmp s.1 v ≡ false →
      contains cmp (front ++ s ∷ back) v ≡ contains cmp back v
  past_after v e [] s back r k = no_or (lies_in cmp s v) (contains cmp back v) (contains cmp back v) (and_right (is_from_start cmp s.0 v) _ k) refl
  past_after v e (f ∷ front) s back r k =
      no_or (lies_in cmp f v) (contains cmp (front ++ s ∷ back) v) (contains cmp back v) (ended v f s (reaches f.1 front s back r.2) k) (past_after v f.1 front s back r.2 k)

  past : (v : V) (front : List (Segment V)) (s : Segment V) (back : List (Segment V)) → IsRange cmp (front ++ s ∷ back) → is_up_to_end cmp s.1 v ≡ false →
      contains cmp (front ++ s ∷ back) v ≡ contains cmp back v
  past v [] s back r k = no_or (lies_in cmp s v) (contains cmp back v) (contains cmp back v) (and_right (is_from_start cmp s.0 v) _ k) refl
  past v (f ∷ front) s back r k =
      no_or (lies_in cmp f v) (contains cmp (front ++ s ∷ back) v) (contains cmp back v) (ended v f s (reaches f.1 front s back r.1) k) (past_after v f.1 front s back r.1 k)

  -- ---- both halves are ranges

  front_after : (e : Bound V) (front back : List (Segment V)) → IsRangeAfter cmp e (front ++ back) → IsRangeAfter cmp e front
  front_after e [] back r = tt
  front_after e (f ∷ front) back r = (r.0, r.1, front_after f.1 front back r.2)

  front_range : (front back : List (Segment V)) → IsRange cmp (front ++ back) → IsRange cmp front
  front_range [] back r = tt
  front_range (f ∷ front) back r = (r.0, front_after f.1 front back r.1)

  after_range : (e : Bound V) (back : List (Segment V)) → IsRangeAfter cmp e back → IsRange cmp back
  after_range e [] r = tt
  after_range e (s ∷ back) r = (r.1, r.2)

  later_range : (e : Bound V) (front back : List (Segment V)) → IsRangeAfter cmp e (front ++ back) → IsRange cmp back
  later_range e [] back r = after_range e back r
  later_range e (f ∷ front) back r = later_range f.1 front back r.2

  back_range : (front back : List (Segment V)) → IsRange cmp (front ++ back) → IsRange cmp back
  back_range [] back r = r
  back_range (f ∷ front) back r = later_range f.1 front back r.1

  contains_append : (xs ys : List (Segment V)) (v : V) → contains cmp ys v ≡ false → contains cmp (xs ++ ys) v ≡ contains cmp xs v
  contains_append [] ys v h = h
  contains_append (x ∷ xs) ys v h = ap (λ b. lies_in cmp x v || b) (contains_append xs ys v h)

  contains_within : (xs ys : List (Segment V)) (v : V) → contains cmp ys v ≡ true → contains cmp (xs ++ ys) v ≡ true
  contains_within [] ys v h = h
  contains_within (x ∷ xs) ys v h = or_right (lies_in cmp x v) _ (contains_within xs ys v h)

  -- ---- one step of the search, of items that stand for segments

  module _ {X : Type 0} (f : X → Segment V) where
    -- of items that stand for a range the segments of ys are a range, which decides of v
    pub record IsHalf (v : V) (xs ys : List X) : Type 0 where
      pub range : IsRange cmp (map f ys)
      pub same : contains cmp (map f xs) v ≡ contains cmp (map f ys) v

    pub nothing : (v : V) (xs : List X) (i : ℕ) → i ≡ length xs / 2 → drop i xs ≡ [] → contains cmp (map f xs) v ≡ false
    nothing v [] i half none = refl
    nothing v (x ∷ xs) i half none =
        let less : length (x ∷ xs) - i ≡ 0 = sym (length-drop i (x ∷ xs)) ∙ ap length none in
        absurd (omega (arith, half, less))

    module _ (v : V) (xs front : List X) (x : X) (back : List X) (i : ℕ) (is_front : front ≡ take i xs) (is_back : drop i xs ≡ x ∷ back) where
      parts : map f xs ≡ map f front ++ f x ∷ map f back
      parts =
          ap (map f) (sym (take-append-drop i xs) ∙ (λ j. sym is_front j ++ is_back j))
          ∙ map-append f front (x ∷ back)

      pub first_half : IsRange cmp (map f xs) → is_from_start cmp (f x).0 v ≡ false → IsHalf v xs front
      first_half r h =
          let whole = subst (IsRange cmp) parts r in
          record {
            range = front_range (map f front) _ whole;
            same = ap (λ l. contains cmp l v) parts ∙ contains_append (map f front) (f x ∷ map f back) v (none_from v (f x) (map f back) (back_range (map f front) _ whole) h);
          }

      pub last_half : IsRange cmp (map f xs) → is_up_to_end cmp (f x).1 v ≡ false → IsHalf v xs back
      last_half r k =
          let whole = subst (IsRange cmp) parts r in
          record {
            range = after_range (f x).1 (map f back) (back_range (map f front) _ whole).1;
            same = ap (λ l. contains cmp l v) parts ∙ past v (map f front) (f x) (map f back) whole k;
          }

  -- ---- one step of the search of segments themselves

  abbrev Itself : Segment V → Segment V
  Itself s = s

  map_itself : (xs : List (Segment V)) → map Itself xs ≡ xs
  map_itself [] = refl
  map_itself (x ∷ xs) = ap (λ l. x ∷ l) (map_itself xs)

  -- of a range these segments are a range, which decides of v
  pub record IsPart (v : V) (xs ys : List (Segment V)) : Type 0 where
    pub range : IsRange cmp ys
    pub same : contains cmp xs v ≡ contains cmp ys v

  as_part : (v : V) (xs ys : List (Segment V)) → IsHalf Itself v xs ys → IsPart v xs ys
  as_part v xs ys h = record {
    range = subst (IsRange cmp) (map_itself ys) h.range;
    same = ap (λ l. contains cmp l v) (sym (map_itself xs)) ∙ h.same ∙ ap (λ l. contains cmp l v) (map_itself ys);
  }

  module _ (v : V) (xs front : List (Segment V)) (x : Segment V) (back : List (Segment V)) (i : ℕ) (is_front : front ≡ take i xs) (is_back : drop i xs ≡ x ∷ back) where
    pub first_part : IsRange cmp xs → is_from_start cmp x.0 v ≡ false → IsPart v xs front
    first_part r h = as_part v xs front (first_half Itself v xs front x back i is_front is_back (subst (IsRange cmp) (sym (map_itself xs)) r) h)

    pub last_part : IsRange cmp xs → is_up_to_end cmp x.1 v ≡ false → IsPart v xs back
    last_part r h = as_part v xs back (last_half Itself v xs front x back i is_front is_back (subst (IsRange cmp) (sym (map_itself xs)) r) h)
