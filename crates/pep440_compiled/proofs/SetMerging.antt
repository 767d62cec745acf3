-- Complement and intersection of sets, as bytes: their keys are in the order of the boundaries that they are of.
use Rattle.std.proofs.Common.{Bor, ◌≡◌, ◌∙◌, ◌==◌, ◌||◌, ℕ, ◌<◌, Bool, true, false, cond, if◌then◌else◌, List, [], ◌∷◌, ◌++◌, ◌⊎◌, inl, inr, append_assoc, arith, length, map, not, refl, sym, ap, ◌&&◌, ◌↔◌, true≢false, IsTrue, subst}
use Rattle.std.proofs.Math.Dec.{eqb-suc-zero}
use Rattle.std.proofs.lemmas.List.{append-nil, map-append}
use Rattle.std.proofs.lemmas.List.Concat.{flat_map-append}
use Rattle.std.proofs.lemmas.List.Elements.{All-from_recursion, recursion_from_All}
use Rattle.std.specs.List.{All, AllByRecursion}
use Rattle.std.specs.Ordering.{is_le, is_lt, ordering_then}
use Rattle.std.specs.Prelude.{Err, Ok, OnOk, Result, unwrap_or, IfErr, IsErrAnd}
use Rattle.std.specs.declared.cmp.Ordering.{Ordering}
use Rattle.std.specs.declared.cmp.Ordering.TheVariants.{Less, Equal, Greater}
use Rattle.std.specs.declared.ops.Bound.{Bound}
use Rattle.std.specs.declared.ops.Bound.TheVariants.{Included, Excluded, Unbounded}
use Rattle.pep440_compiled.proofs.SetKeys.{set_has_keys, denotable}
use Rattle.pep440_compiled.specs.SetBytes.{IsSized, interval_bytes, set_bytes, set_keys, sized_bytes}
use Rattle.pep440_compiled.specs.SetForms.{IsBytesOf, DenotesSet, HasSet}
use Rattle.pep440_keys.proofs.Order.{followed_in_order, keys_in_order}
use Rattle.pep440_keys.specs.RangeKeys.{IsKeyedBound, IsKeyedSegment, high_key, is_below_key, low_key, segment_interval}
use Rattle.pep440_keys.specs.SortKeys.{IsKeyed, key_bytes, needed_bytes}
use Rattle.pep440_ranges.proofs.Merging.{merge_done, merge_left, merge_right, tail_range}
use Rattle.pep440_ranges.specs.BoundOrder.{ends_before, flipped_bound, is_valid, starts_before}
use Rattle.pep440_ranges.specs.Complement.{gap_after, gap_before, gaps, gaps_after}
use Rattle.pep440_ranges.specs.Intersection.{overlap, overlaps}
use Rattle.pep440_ranges.specs.RangeSegments.{IsRange, Segment, one_segment, contains}
use Rattle.pep440_rs.specs.Bounds.{Segments}
use Rattle.pep440_sets.proofs.SetBoundaries.{each_gap, each_overlap, gaps_set, overlaps_set}
use Rattle.pep440_version.specs.Key.{record_cmp}
use Rattle.pep440_version.specs.Key.KeyLaws.{record_total}
use Rattle.pep440_version.specs.Record.{Fits, Record}
use Rattle.std.proofs.lemmas.Bool.{eqb-true}
use Rattle.std.proofs.lemmas.Result.{err_from_is_err_and}
use Rattle.pep440_compiled.specs.declared.error.CompiledError.{CompiledError}
use Rattle.pep440_compiled.specs.declared.error.CompiledError.TheVariants.{NotCompiled}
use Rattle.pep440_compiled.proofs.Listed.{first_byte}
use Rattle.pep440_compiled.specs.Lists.{DenotesWithSet}
use Rattle.pep440_ranges.proofs.Laws.{gaps_hold_the_rest, overlaps_hold_both}
use Rattle.pep440_rs.specs.Specifiers.{Spec}
use Rattle.pep440_sets.proofs.Lists.{empty_has_none, list_is_set, none_is_empty}
use Rattle.pep440_sets.specs.Boundaries.{IsVersionSet}
use Rattle.pep440_sets.specs.Emptiness.{IsSubset}
use Rattle.pep440_sets.specs.Sets.{list_set}

-- the bytes of a start and of an end
abbrev pub start_bytes : Bound Record → List ℕ
start_bytes start = unwrap_or (low_key start) []

abbrev pub end_bytes : Bound Record → List ℕ
end_bytes end = unwrap_or (high_key end) []

-- ---- keys are in the order of their boundaries

then_less : (o : Ordering) → is_lt (ordering_then o Less) ≡ is_le o
then_less Less = refl
then_less Equal = refl
then_less Greater = refl

then_equal : (o : Ordering) → is_lt (ordering_then o Equal) ≡ is_lt o
then_equal Less = refl
then_equal Equal = refl
then_equal Greater = refl

then_greater : (o : Ordering) → is_lt (ordering_then o Greater) ≡ is_lt o
then_greater Less = refl
then_greater Equal = refl
then_greater Greater = refl

module _ (x y : Record) (kx : IsKeyed x) (ky : IsKeyed y) where
  alike : is_below_key (key_bytes x) (key_bytes y) ≡ is_lt (record_cmp x y)
  alike = ap is_lt (keys_in_order x y kx ky)

  both_above : is_below_key (key_bytes x ++ 0 ∷ []) (key_bytes y ++ 0 ∷ []) ≡ is_lt (record_cmp x y)
  both_above = ap is_lt (followed_in_order x y kx ky (0 ∷ []) (0 ∷ [])) ∙ then_equal (record_cmp x y)

  second_above : is_below_key (key_bytes x) (key_bytes y ++ 0 ∷ []) ≡ is_le (record_cmp x y)
  second_above = ap (λ k. is_below_key k (key_bytes y ++ 0 ∷ [])) (sym (append-nil (key_bytes x))) ∙ ap is_lt (followed_in_order x y kx ky [] (0 ∷ [])) ∙ then_less (record_cmp x y)

  first_above : is_below_key (key_bytes x ++ 0 ∷ []) (key_bytes y) ≡ is_lt (record_cmp x y)
  first_above = ap (is_below_key (key_bytes x ++ 0 ∷ [])) (sym (append-nil (key_bytes y))) ∙ ap is_lt (followed_in_order x y kx ky (0 ∷ []) []) ∙ then_greater (record_cmp x y)

pub starts_in_order : (a b : Bound Record) → IsKeyedBound a → IsKeyedBound b → is_below_key (start_bytes a) (start_bytes b) ≡ starts_before record_cmp a b
starts_in_order Unbounded Unbounded h k = refl
starts_in_order Unbounded (Included y) h k = refl
starts_in_order Unbounded (Excluded y) h k = refl
starts_in_order (Included x) Unbounded h k = refl
starts_in_order (Excluded x) Unbounded h k = refl
starts_in_order (Included x) (Included y) h k = alike x y h k
starts_in_order (Included x) (Excluded y) h k = second_above x y h k
starts_in_order (Excluded x) (Included y) h k = first_above x y h k
starts_in_order (Excluded x) (Excluded y) h k = both_above x y h k

-- the end comes first, by its bytes
abbrev pub ends_first : List ℕ → List ℕ → Bool
ends_first high other = if length high == 0 then false else (length other == 0) || is_below_key high other

key_some : (v : Record) → length (key_bytes v) == 0 ≡ false
key_some v = eqb-suc-zero _

above_some : (v : Record) → length (key_bytes v ++ 0 ∷ []) == 0 ≡ false
above_some v = eqb-suc-zero _

-- both ends have bytes
both_end : (a b : List ℕ) (o : Bool) → length a == 0 ≡ false → length b == 0 ≡ false → is_below_key a b ≡ o → ends_first a b ≡ o
both_end a b o p q r = (λ i. if p i then false else q i || r i)

pub ends_in_order : (a b : Bound Record) → IsKeyedBound a → IsKeyedBound b → ends_first (end_bytes a) (end_bytes b) ≡ ends_before record_cmp a b
ends_in_order Unbounded b h k = refl
ends_in_order (Included x) Unbounded h k = ap (λ (p : Bool). if p then false else true) (above_some x)
ends_in_order (Excluded x) Unbounded h k = ap (λ (p : Bool). if p then false else true) (key_some x)
ends_in_order (Included x) (Included y) h k = both_end (key_bytes x ++ 0 ∷ []) (key_bytes y ++ 0 ∷ []) (is_lt (record_cmp x y)) (above_some x) (above_some y) (both_above x y h k)
ends_in_order (Included x) (Excluded y) h k = both_end (key_bytes x ++ 0 ∷ []) (key_bytes y) (is_lt (record_cmp x y)) (above_some x) (key_some y) (first_above x y h k)
ends_in_order (Excluded x) (Included y) h k = both_end (key_bytes x) (key_bytes y ++ 0 ∷ []) (is_le (record_cmp x y)) (key_some x) (above_some y) (second_above x y h k)
ends_in_order (Excluded x) (Excluded y) h k = both_end (key_bytes x) (key_bytes y) (is_lt (record_cmp x y)) (key_some x) (key_some y) (alike x y h k)

-- some key lies between the two
abbrev pub has_between : List ℕ → List ℕ → Bool
has_between low high = (length high == 0) || is_below_key low high

between : (low high : List ℕ) (o : Bool) → length high == 0 ≡ false → is_below_key low high ≡ o → has_between low high ≡ o
between low high o p q = (λ i. p i || q i)

pub valid_in_order : (start end : Bound Record) → IsKeyedBound start → IsKeyedBound end → has_between (start_bytes start) (end_bytes end) ≡ is_valid record_cmp start end
valid_in_order Unbounded Unbounded h k = refl
valid_in_order Unbounded (Included y) h k = between [] (key_bytes y ++ 0 ∷ []) true (above_some y) refl
valid_in_order Unbounded (Excluded y) h k = between [] (key_bytes y) true (key_some y) refl
valid_in_order (Included x) Unbounded h k = refl
valid_in_order (Excluded x) Unbounded h k = refl
valid_in_order (Included x) (Included y) h k = between (key_bytes x) (key_bytes y ++ 0 ∷ []) (is_le (record_cmp x y)) (above_some y) (second_above x y h k)
valid_in_order (Included x) (Excluded y) h k = between (key_bytes x) (key_bytes y) (is_lt (record_cmp x y)) (key_some y) (alike x y h k)
valid_in_order (Excluded x) (Included y) h k = between (key_bytes x ++ 0 ∷ []) (key_bytes y ++ 0 ∷ []) (is_lt (record_cmp x y)) (above_some y) (both_above x y h k)
valid_in_order (Excluded x) (Excluded y) h k = between (key_bytes x ++ 0 ∷ []) (key_bytes y) (is_lt (record_cmp x y)) (key_some y) (first_above x y h k)

-- ---- keys that fit in memory

none_fits : Fits 0
none_fits = grind arith

abbrev StartFits : Bound Record → Type 0
StartFits start = Fits (length (start_bytes start))

abbrev EndFits : Bound Record → Type 0
EndFits end = Fits (length (end_bytes end))

turned_start : (start : Bound Record) → StartFits start → EndFits (flipped_bound start)
turned_start Unbounded h = h
turned_start (Included v) h = h
turned_start (Excluded v) h = h

turned_end : (end : Bound Record) → EndFits end → StartFits (flipped_bound end)
turned_end Unbounded h = h
turned_end (Included v) h = h
turned_end (Excluded v) h = h

pub gaps_fit : (set : Segments) → All IsSized set → All IsSized (gaps set)
gaps_fit set all = All-from_recursion IsSized (gaps set) (each_gap StartFits EndFits none_fits none_fits turned_start turned_end set (recursion_from_All IsSized set all))

pub overlaps_fit : (a b : Segments) → All IsSized a → All IsSized b → All IsSized (overlaps record_cmp a b)
overlaps_fit a b h k = All-from_recursion IsSized (overlaps record_cmp a b) (each_overlap StartFits EndFits a b (recursion_from_All IsSized a h) (recursion_from_All IsSized b k))

-- ---- what is left of a set

pub record IsRest (bytes : List ℕ) (set : Segments) : Type 0 where
  pub range : IsRange record_cmp set
  pub keyed : AllByRecursion IsKeyedSegment set
  pub sized : AllByRecursion IsSized set
  pub same : bytes ≡ set_bytes set

pub whole_rest : (bytes : List ℕ) (set : Segments) → IsBytesOf bytes set → IsRest bytes set
whole_rest bytes set h = record { range = h.valid.apart; keyed = recursion_from_All IsKeyedSegment set (set_has_keys set h.valid); sized = recursion_from_All IsSized set h.sizes; same = h.same }

-- its first interval
pub record Head (bytes : List ℕ) (set : Segments) : Type 0 where
  pub first : Segment Record
  pub more : Segments
  pub split : set ≡ first ∷ more
  pub keyed : IsKeyedSegment first
  pub sized : IsSized first
  pub bytes_are : bytes ≡ interval_bytes (segment_interval first) ++ set_bytes more
  pub rest : (later : List ℕ) → later ≡ set_bytes more → IsRest later more

pub head : (bytes : List ℕ) (set : Segments) → 0 < length bytes → IsRest bytes set → Head bytes set
head bytes [] some h = absurd (omega (arith, some, ap length h.same))
head bytes (s ∷ set) some h = record {
  first = s;
  more = set;
  split = refl;
  keyed = h.keyed.0;
  sized = h.sized.0;
  bytes_are = h.same;
  rest = λ later e. record { range = tail_range record_cmp (s ∷ set) set s refl h.range; keyed = h.keyed.1; sized = h.sized.1; same = e };
}

-- no bytes, no interval
pub none_left : (bytes : List ℕ) (set : Segments) → length bytes ≡ 0 → IsRest bytes set → length set ≡ 0
none_left bytes [] none h = refl
none_left bytes (s ∷ set) none h = absurd (omega (arith, none, ap length h.same))

-- ---- intersection

-- what is written so far, and what is left of both
pub record Merging (s t : Segments) (old out left right : List ℕ) : Type 0 where
  pub done : Segments
  pub left_set : Segments
  pub right_set : Segments
  pub left_is : IsRest left left_set
  pub right_is : IsRest right right_set
  pub written : out ≡ old ++ set_bytes done
  pub whole : done ++ overlaps record_cmp left_set right_set ≡ overlaps record_cmp s t

pub merge_begun : (s t : Segments) (old left right : List ℕ) → IsBytesOf left s → IsBytesOf right t → Merging s t old old left right
merge_begun s t old left right h k = record { done = []; left_set = s; right_set = t; left_is = whole_rest left s h; right_is = whole_rest right t k; written = sym (append-nil old); whole = refl }

-- the interval between two keys, where there is some key between them
abbrev pub between_bytes : List ℕ → List ℕ → List ℕ
between_bytes low high = if has_between low high then sized_bytes low ++ sized_bytes high else []

segment_written : (start end : Bound Record) (b : Bool) → set_bytes (cond b ((start, end) ∷ []) []) ≡ cond b (sized_bytes (start_bytes start) ++ sized_bytes (end_bytes end)) []
segment_written start end true = append-nil (interval_bytes (segment_interval (start, end)))
segment_written start end false = refl

pub one_written : (start end : Bound Record) (low high : List ℕ) → IsKeyedBound start → IsKeyedBound end → low ≡ start_bytes start → high ≡ end_bytes end →
    between_bytes low high ≡ set_bytes (one_segment record_cmp start end)
one_written start end low high h k l e =
    (λ i. between_bytes (l i) (e i))
    ∙ ap (λ b. cond b (sized_bytes (start_bytes start) ++ sized_bytes (end_bytes end)) []) (valid_in_order start end h k)
    ∙ sym (segment_written start end (is_valid record_cmp start end))

pub one_more : (start end : Bound Record) (old out new low high : List ℕ) (done : Segments) → IsKeyedBound start → IsKeyedBound end → low ≡ start_bytes start → high ≡ end_bytes end →
    out ≡ old ++ set_bytes done → new ≡ out ++ between_bytes low high → new ≡ old ++ set_bytes (done ++ one_segment record_cmp start end)
one_more start end old out new low high done h k l e w n =
    let row = set_bytes (one_segment record_cmp start end) in
    n ∙ (λ i. w i ++ one_written start end low high h k l e i) ∙ append_assoc old (set_bytes done) row
    ∙ ap (λ l. old ++ l) (sym (flat_map-append (λ s. interval_bytes (segment_interval s)) done (one_segment record_cmp start end)))

start_of : (b : Bool) (s t : Bound Record) (low s_low t_low : List ℕ) → low ≡ cond b t_low s_low → s_low ≡ start_bytes s → t_low ≡ start_bytes t → low ≡ start_bytes (cond b t s)
start_of true s t low s_low t_low l p q = l ∙ q
start_of false s t low s_low t_low l p q = l ∙ p

-- the later of the two starts is that of the overlap
pub later_is : (s t : Segment Record) (low s_low t_low : List ℕ) → IsKeyedSegment s → IsKeyedSegment t → s_low ≡ start_bytes s.0 → t_low ≡ start_bytes t.0 →
    low ≡ cond (is_below_key s_low t_low) t_low s_low → low ≡ start_bytes (overlap record_cmp s t).0
later_is s t low s_low t_low h k p q l =
    start_of (starts_before record_cmp s.0 t.0) s.0 t.0 low s_low t_low (l ∙ ap (λ b. cond b t_low s_low) ((λ i. is_below_key (p i) (q i)) ∙ starts_in_order s.0 t.0 h.0 k.0)) p q

one_of : (P : Bound Record → Type 0) (b : Bool) (x y : Bound Record) → P x → P y → P (cond b x y)
one_of P true x y h k = h
one_of P false x y h k = k

later_keyed : (s t : Segment Record) → IsKeyedSegment s → IsKeyedSegment t → IsKeyedBound (overlap record_cmp s t).0
later_keyed s t h k = one_of IsKeyedBound (starts_before record_cmp s.0 t.0) t.0 s.0 k.0 h.0

-- which interval ends first
pub first_is : (s t : Segment Record) (b : Bool) (s_high t_high : List ℕ) → IsKeyedSegment s → IsKeyedSegment t → s_high ≡ end_bytes s.1 → t_high ≡ end_bytes t.1 →
    b ≡ ends_first t_high s_high → ends_before record_cmp t.1 s.1 ≡ b
first_is s t b s_high t_high h k p q e = sym (e ∙ (λ i. ends_first (q i) (p i)) ∙ ends_in_order t.1 s.1 k.1 h.1)

module _ (s t : Segments) (old out new left right later low s_low s_high t_low t_high : List ℕ) (at : Merging s t old out left right) (h : Head left at.left_set) (k : Head right at.right_set)
    (p : s_low ≡ start_bytes h.first.0) (p' : s_high ≡ end_bytes h.first.1) (q : t_low ≡ start_bytes k.first.0) (q' : t_high ≡ end_bytes k.first.1)
    (l : low ≡ cond (is_below_key s_low t_low) t_low s_low) where
  abbrev start : Bound Record
  start = (overlap record_cmp h.first k.first).0

  start_is : low ≡ start_bytes start
  start_is = later_is h.first k.first low s_low t_low h.keyed k.keyed p q l

  pub right_first : ends_first t_high s_high ≡ true → new ≡ out ++ between_bytes low t_high → later ≡ set_bytes k.more → Merging s t old new left later
  right_first e n r = record {
    done = at.done ++ one_segment record_cmp start k.first.1;
    left_set = at.left_set;
    right_set = k.more;
    left_is = at.left_is;
    right_is = k.rest later r;
    written = one_more start k.first.1 old out new low t_high at.done (later_keyed h.first k.first h.keyed k.keyed) k.keyed.1 start_is q' at.written n;
    whole = merge_right record_total h.first k.first start h.more k.more at.left_set at.right_set at.done (at.done ++ one_segment record_cmp start k.first.1) (overlaps record_cmp s t) h.split k.split
        (first_is h.first k.first (ends_first t_high s_high) s_high t_high h.keyed k.keyed p' q' refl ∙ e) refl at.left_is.range refl at.whole;
  }

  pub left_first : ends_first t_high s_high ≡ false → new ≡ out ++ between_bytes low s_high → later ≡ set_bytes h.more → Merging s t old new later right
  left_first e n r = record {
    done = at.done ++ one_segment record_cmp start h.first.1;
    left_set = h.more;
    right_set = at.right_set;
    left_is = h.rest later r;
    right_is = at.right_is;
    written = one_more start h.first.1 old out new low s_high at.done (later_keyed h.first k.first h.keyed k.keyed) h.keyed.1 start_is p' at.written n;
    whole = merge_left record_total h.first k.first start h.more k.more at.left_set at.right_set at.done (at.done ++ one_segment record_cmp start h.first.1) (overlaps record_cmp s t) h.split k.split
        (first_is h.first k.first (ends_first t_high s_high) s_high t_high h.keyed k.keyed p' q' refl ∙ e) refl at.right_is.range refl at.whole;
  }

-- one of the two has no interval left
pub merge_ended : (s t : Segments) (old out left right : List ℕ) → Merging s t old out left right → (length left ≡ 0) ⊎ (length right ≡ 0) → out ≡ old ++ set_bytes (overlaps record_cmp s t)
merge_ended s t old out left right at none =
    at.written ∙ ap (λ l. old ++ set_bytes l) (merge_done record_total at.left_set at.right_set at.done (overlaps record_cmp s t) (ends none) at.whole)
  where
    ends : (length left ≡ 0) ⊎ (length right ≡ 0) → (length at.left_set ≡ 0) ⊎ (length at.right_set ≡ 0)
    ends (inl e) = inl (none_left left at.left_set e at.left_is)
    ends (inr e) = inr (none_left right at.right_set e at.right_is)

-- ---- complement

turned_start_bytes : (start : Bound Record) → end_bytes (flipped_bound start) ≡ start_bytes start
turned_start_bytes Unbounded = refl
turned_start_bytes (Included v) = refl
turned_start_bytes (Excluded v) = refl

turned_end_bytes : (end : Bound Record) → start_bytes (flipped_bound end) ≡ end_bytes end
turned_end_bytes Unbounded = refl
turned_end_bytes (Included v) = refl
turned_end_bytes (Excluded v) = refl

-- the keys between which gaps lie that were looked at, and what is left: the key of an end, and the intervals after it
pub record Trailing (end : Bound Record) (s : Segments) (keys left : List ℕ) : Type 0 where
  pub last : Bound Record
  pub more : Segments
  pub done : List ℕ
  pub sized : AllByRecursion IsSized more
  pub fits : Fits (length (end_bytes last))
  pub split : keys ≡ done ++ left
  pub left_is : left ≡ sized_bytes (end_bytes last) ++ set_bytes more
  pub whole : done ++ set_bytes (gaps_after last more) ≡ set_bytes (gaps_after end s)

-- the bytes are some intervals
pub record IsLeft (left : List ℕ) : Type 0 where
  pub set : Segments
  pub sized : AllByRecursion IsSized set
  pub same : left ≡ set_bytes set

pub record FirstGap (left : List ℕ) (set : Segments) : Type 0 where
  pub first : Segment Record
  pub more : Segments
  pub split : set ≡ first ∷ more
  pub sized : IsSized first
  pub all : AllByRecursion IsSized more
  pub bytes_are : left ≡ interval_bytes (segment_interval first) ++ set_bytes more

pub first_gap : (left : List ℕ) (set : Segments) → 0 < length left → AllByRecursion IsSized set → left ≡ set_bytes set → FirstGap left set
first_gap left [] some all e = absurd (omega (arith, some, ap length e))
first_gap left (s ∷ set) some all e = record { first = s; more = set; split = refl; sized = all.0; all = all.1; bytes_are = e }

no_more : (left : List ℕ) (more : Segments) → length left ≡ 0 → left ≡ set_bytes more → more ≡ []
no_more left [] none e = refl
no_more left (s ∷ more) none e = absurd (omega (arith, none, ap length e))

-- the keys that were found so far, and what is left
pub record Collecting (s : Segments) (keys : List (Bor (List ℕ))) (left : List ℕ) : Type 0 where
  pub more : Segments
  pub sized : AllByRecursion IsSized more
  pub left_is : left ≡ set_bytes more
  pub found : map (λ k. k.now) keys ++ set_keys more ≡ set_keys s

pub collect_begun : (s : Segments) (left : List ℕ) → All IsSized s → left ≡ set_bytes s → Collecting s [] left
collect_begun s left all e = record { more = s; sized = recursion_from_All IsSized s all; left_is = e; found = refl }

pub two_more : (s : Segments) (keys one two : List (Bor (List ℕ))) (low high : Bor (List ℕ)) (left later : List ℕ) (at : Collecting s keys left) (f : FirstGap left at.more) →
    low.now ≡ start_bytes f.first.0 → high.now ≡ end_bytes f.first.1 → later ≡ set_bytes f.more → one ≡ keys ++ low ∷ [] → two ≡ one ++ high ∷ [] → Collecting s two later
two_more s keys one two low high left later at f l h r p q =
    let now : Bor (List ℕ) → List ℕ = λ k. k.now in
    let both : two ≡ keys ++ low ∷ high ∷ [] = q ∙ ap (λ k. k ++ high ∷ []) p ∙ append_assoc keys (low ∷ []) (high ∷ []) in record {
      more = f.more;
      sized = f.all;
      left_is = r;
      found =
          ap (λ k. map now k ++ set_keys f.more) both ∙ ap (λ k. k ++ set_keys f.more) (map-append now keys (low ∷ high ∷ []))
          ∙ append_assoc (map now keys) (low.now ∷ high.now ∷ []) (set_keys f.more)
          ∙ (λ i. map now keys ++ (l i ∷ (h i ∷ set_keys f.more)))
          ∙ ap (λ k. map now keys ++ set_keys k) (sym f.split)
          ∙ at.found;
    }

pub collect_done : (s : Segments) (keys : List (Bor (List ℕ))) (left : List ℕ) → length left ≡ 0 → Collecting s keys left → map (λ k. k.now) keys ≡ set_keys s
collect_done s keys left none at = sym (append-nil (map (λ k. k.now) keys)) ∙ ap (λ m. map (λ k. k.now) keys ++ set_keys m) (sym (no_more left at.more none at.left_is)) ∙ at.found

gap_written : (last start : Bound Record) (low next : List ℕ) → low ≡ end_bytes last → next ≡ start_bytes start →
    interval_bytes (segment_interval (flipped_bound last, flipped_bound start)) ≡ sized_bytes low ++ sized_bytes next
gap_written last start low next l n = sym (λ i. sized_bytes ((l ∙ sym (turned_end_bytes last)) i) ++ sized_bytes ((n ∙ sym (turned_start_bytes start)) i))

-- the bytes after the low key of the first interval
pub after_low : (left : List ℕ) (set : Segments) (f : FirstGap left set) → left ≡ sized_bytes (start_bytes f.first.0) ++ (sized_bytes (end_bytes f.first.1) ++ set_bytes f.more)
after_low left set f = f.bytes_are ∙ append_assoc (sized_bytes (start_bytes f.first.0)) (sized_bytes (end_bytes f.first.1)) (set_bytes f.more)

pub two_passed : (end : Bound Record) (s : Segments) (keys left rest later : List ℕ) (at : Trailing end s keys left) (f : FirstGap rest at.more) →
    rest ≡ set_bytes at.more → later ≡ sized_bytes (end_bytes f.first.1) ++ set_bytes f.more → Trailing end s keys later
two_passed end s keys left rest later at f r l =
    let passed = sized_bytes (end_bytes at.last) ++ sized_bytes (start_bytes f.first.0) in
    let after = set_bytes (gaps_after f.first.1 f.more) in record {
      last = f.first.1;
      more = f.more;
      done = at.done ++ passed;
      sized = f.all;
      fits = f.sized.1;
      split =
          at.split ∙ ap (λ k. at.done ++ k) (at.left_is ∙ ap (λ k. sized_bytes (end_bytes at.last) ++ k) (sym r ∙ after_low rest at.more f ∙ ap (λ k. sized_bytes (start_bytes f.first.0) ++ k) (sym l)))
          ∙ ap (λ k. at.done ++ k) (sym (append_assoc (sized_bytes (end_bytes at.last)) (sized_bytes (start_bytes f.first.0)) later))
          ∙ sym (append_assoc at.done passed later);
      left_is = l;
      whole =
          ap (λ k. (at.done ++ k) ++ after) (sym (gap_written at.last f.first.0 (end_bytes at.last) (start_bytes f.first.0) refl refl))
          ∙ append_assoc at.done (interval_bytes (segment_interval (flipped_bound at.last, flipped_bound f.first.0))) after
          ∙ ap (λ k. at.done ++ set_bytes (gaps_after at.last k)) (sym f.split)
          ∙ at.whole;
    }

end_written : (last : Bound Record) (low : List ℕ) → low ≡ end_bytes last → set_bytes (gap_after last) ≡ cond (length low == 0) [] (sized_bytes low ++ sized_bytes [])
end_written Unbounded low l = sym (ap (λ l. cond (length l == 0) [] (sized_bytes l ++ sized_bytes [])) l)
end_written (Included v) low l = append-nil _ ∙ sym (ap (λ l. cond (length l == 0) [] (sized_bytes l ++ sized_bytes [])) l ∙ ap (λ b. cond b [] (sized_bytes (end_bytes (Included v)) ++ sized_bytes [])) (eqb-suc-zero _))
end_written (Excluded v) low l = append-nil _ ∙ sym (ap (λ l. cond (length l == 0) [] (sized_bytes l ++ sized_bytes [])) l ∙ ap (λ b. cond b [] (sized_bytes (end_bytes (Excluded v)) ++ sized_bytes [])) (eqb-suc-zero _))

no_bytes : sized_bytes [] ≡ 0 ∷ []
unfolding needed_bytes
no_bytes = refl

-- no key follows a last key, and stands in its place too many
ends_known : (end : Bound Record) (s : Segments) (keys left high rest : List ℕ) (at : Trailing end s keys left) → high ≡ end_bytes at.last → rest ≡ set_bytes at.more → length rest ≡ 0 →
    (set_bytes (gaps_after end s) ≡ at.done ++ cond (length high == 0) [] (sized_bytes high ++ sized_bytes [])) × (keys ≡ at.done ++ sized_bytes high)
ends_known end s keys left high rest at h r none =
    let over = no_more rest at.more none r in (
      sym at.whole ∙ ap (λ l. at.done ++ set_bytes (gaps_after at.last l)) over ∙ ap (λ l. at.done ++ l) (end_written at.last high h),
      at.split ∙ ap (λ l. at.done ++ l) (at.left_is ∙ ap (λ l. sized_bytes (end_bytes at.last) ++ set_bytes l) over ∙ append-nil (sized_bytes (end_bytes at.last)) ∙ ap sized_bytes (sym h)),
    )

ends_told : (done after keys high : List ℕ) → after ≡ done ++ cond (length high == 0) [] (sized_bytes high ++ sized_bytes []) → keys ≡ done ++ sized_bytes high →
    (not (length high == 0) ≡ true → after ≡ keys ++ sized_bytes []) × (not (length high == 0) ≡ false → keys ≡ after ++ sized_bytes [])
ends_told done after keys [] a k = (λ e. absurd (grind arith), λ _. k ∙ ap (λ l. l ++ sized_bytes []) (sym (a ∙ append-nil done)))
ends_told done after keys (b ∷ high) a k = (
  λ _. a ∙ ap (λ e. done ++ cond e [] (sized_bytes (b ∷ high) ++ sized_bytes [])) (eqb-suc-zero (length high)) ∙ sym (append_assoc done (sized_bytes (b ∷ high)) (sized_bytes []))
      ∙ ap (λ l. l ++ sized_bytes []) (sym k),
  λ e. absurd (grind arith),
)

pub ends_named : (end : Bound Record) (s : Segments) (keys left high rest : List ℕ) (at : Trailing end s keys left) → high ≡ end_bytes at.last → rest ≡ set_bytes at.more → length rest ≡ 0 →
    (not (length high == 0) ≡ true → set_bytes (gaps_after end s) ≡ keys ++ 0 ∷ []) × (not (length high == 0) ≡ false → keys ≡ set_bytes (gaps_after end s) ++ 0 ∷ [])
ends_named end s keys left high rest at h r none =
    let known = ends_known end s keys left high rest at h r none in
    let told = ends_told at.done (set_bytes (gaps_after end s)) keys high known.0 known.1 in (
      λ e. told.0 e ∙ ap (λ l. keys ++ l) no_bytes,
      λ e. told.1 e ∙ ap (λ l. set_bytes (gaps_after end s) ++ l) no_bytes,
    )

-- the gap before the first interval, and those after it
before_written : (start : Bound Record) (low : List ℕ) → low ≡ start_bytes start → set_bytes (gap_before start) ≡ cond (length low == 0) [] (sized_bytes [] ++ sized_bytes low)
before_written Unbounded low l = sym (ap (λ l. cond (length l == 0) [] (sized_bytes [] ++ sized_bytes l)) l)
before_written (Included v) low l = append-nil _ ∙ sym (ap (λ l. cond (length l == 0) [] (sized_bytes [] ++ sized_bytes l)) l ∙ ap (λ b. cond b [] (sized_bytes [] ++ sized_bytes (start_bytes (Included v)))) (eqb-suc-zero _))
before_written (Excluded v) low l = append-nil _ ∙ sym (ap (λ l. cond (length l == 0) [] (sized_bytes [] ++ sized_bytes l)) l ∙ ap (λ b. cond b [] (sized_bytes [] ++ sized_bytes (start_bytes (Excluded v)))) (eqb-suc-zero _))

pub all_gaps : (set : Segments) (first : Segment Record) (more : Segments) (old out new low : List ℕ) → set ≡ first ∷ more → low ≡ start_bytes first.0 →
    out ≡ old ++ cond (length low == 0) [] (sized_bytes [] ++ sized_bytes low) → new ≡ out ++ set_bytes (gaps_after first.1 more) → new ≡ old ++ set_bytes (gaps set)
all_gaps set first more old out new low split l w n =
    let before = set_bytes (gap_before first.0) in
    let after = set_bytes (gaps_after first.1 more) in
    n ∙ ap (λ k. k ++ after) (w ∙ ap (λ k. old ++ k) (sym (before_written first.0 low l))) ∙ append_assoc old before after
    ∙ ap (λ k. old ++ k) (sym (flat_map-append (λ s. interval_bytes (segment_interval s)) (gap_before first.0) (gaps_after first.1 more))) ∙ ap (λ k. old ++ set_bytes (gaps k)) (sym split)

pub on_ok : {T E : Type 0} (result : Result T E) (P Q : Type 0) → (P → Q) → OnOk result P → OnOk result Q
on_ok (Ok x) P Q f p = f p
on_ok (Err e) P Q f p = tt

-- ---- Sets by themselves and sets of lists: what is made of them is a set, and one is in another exactly if nothing of it is outside

-- ---- the keys of a set

pub keys_of_list : (bytes keys : List ℕ) (list : List Spec) → DenotesWithSet bytes list → keys ≡ set_bytes (list_set list) → IsBytesOf keys (list_set list)
keys_of_list bytes keys list d e = record { valid = list_is_set list (denotable list d.members.members d.given); sizes = d.sizes; same = e }

-- after the format byte 6 stand those of a list
pub keys_before : (bytes later keys : List ℕ) (s : Segments) → bytes ≡ 6 ∷ later → ((l : List Spec) → DenotesWithSet bytes l → keys ≡ set_bytes (list_set l)) → HasSet bytes s → IsBytesOf keys s
keys_before bytes later keys s e found (inl (k, h, is)) = absurd (omega (arith, first_byte 6 7 _ _ (sym e ∙ is)))
keys_before bytes later keys s e found (inr (l, d, is)) = subst (IsBytesOf keys) (sym is) (keys_of_list bytes keys l d (found l d))

pub valid_set : (bytes : List ℕ) (s : Segments) → HasSet bytes s → IsVersionSet s
valid_set bytes s (inl (k, h, is)) = h.valid
valid_set bytes s (inr (l, d, is)) = subst IsVersionSet (sym is) (list_is_set l (denotable l d.members.members d.given))

-- ---- what is made of sets

pub complement_denoted : (keys old new : List ℕ) (s : Segments) → IsBytesOf keys s → old ≡ 7 ∷ [] → new ≡ old ++ set_bytes (gaps s) → DenotesSet new (gaps s)
complement_denoted keys old new s h o n = (set_bytes (gaps s), record { valid = gaps_set s h.valid; sizes = gaps_fit s h.sizes; same = refl }, n ∙ ap (λ l. l ++ set_bytes (gaps s)) o)

pub intersection_denoted : (left right old new : List ℕ) (s t : Segments) → IsBytesOf left s → IsBytesOf right t → old ≡ 7 ∷ [] → new ≡ old ++ set_bytes (overlaps record_cmp s t) →
    DenotesSet new (overlaps record_cmp s t)
intersection_denoted left right old new s t h k o n = (
  set_bytes (overlaps record_cmp s t),
  record { valid = overlaps_set s t h.valid k.valid; sizes = overlaps_fit s t h.sizes k.sizes; same = refl },
  n ∙ ap (λ l. l ++ set_bytes (overlaps record_cmp s t)) o,
)

-- ---- subsets

within : (a b : Bool) → a && not b ≡ false → a ≡ true → b ≡ true
within true true h e = refl
within true false h e = absurd (true≢false h)
within false b h e = absurd (true≢false (sym e))

outside : (a b : Bool) → (a ≡ true → b ≡ true) → a && not b ≡ false
outside true b f = ap not (f refl)
outside false b f = refl

rest_holds : (s t : Segments) (v : Record) → IsVersionSet t → contains record_cmp (overlaps record_cmp s (gaps t)) v ≡ contains record_cmp s v && not (contains record_cmp t v)
rest_holds s t v h = overlaps_hold_both record_total s (gaps t) v ∙ ap (λ b. contains record_cmp s v && b) (gaps_hold_the_rest record_total t v h.apart)

pub none_outside : (s t : Segments) → IsVersionSet t → overlaps record_cmp s (gaps t) ≡ [] → IsSubset s t
none_outside s t h e v d is = within (contains record_cmp s v) (contains record_cmp t v) (sym (rest_holds s t v h) ∙ empty_has_none (overlaps record_cmp s (gaps t)) e v d) is

pub all_inside : (s t : Segments) → IsVersionSet s → IsVersionSet t → IsSubset s t → overlaps record_cmp s (gaps t) ≡ []
all_inside s t h k is =
    none_is_empty (overlaps record_cmp s (gaps t)) (overlaps_set s (gaps t) h (gaps_set t k))
    (λ v d. rest_holds s t v k ∙ outside (contains record_cmp s v) (contains record_cmp t v) (is v d))

no_interval : (set : Segments) → length (set_bytes set) ≡ 0 → set ≡ []
no_interval [] e = refl
no_interval (s ∷ set) e = absurd (omega (arith, e))

-- the set has no interval exactly if nothing stands after its format byte
pub empty_is : (bytes : List ℕ) (set : Segments) → DenotesSet bytes set → length bytes ≡ 1 → set ≡ []
empty_is bytes set (keys, h, is) one = no_interval set (omega (arith, one, ap length is, ap length h.same))

pub is_empty : (bytes : List ℕ) (set : Segments) → DenotesSet bytes set → set ≡ [] → length bytes ≡ 1
is_empty bytes set (keys, h, is) none = ap length (is ∙ ap (λ l. 7 ∷ l) (h.same ∙ ap set_bytes none))

-- one byte stands alone exactly if the one set is in the other
pub told : (s t : Segments) (bytes : List ℕ) (n : ℕ) → IsVersionSet s → IsVersionSet t → DenotesSet bytes (overlaps record_cmp s (gaps t)) → n ≡ length bytes → IsTrue (n == 1) ↔ IsSubset s t
told s t bytes n h k d e = (
  λ is. none_outside s t k (empty_is bytes (overlaps record_cmp s (gaps t)) d (sym e ∙ eqb-true n 1 is)),
  λ inside. ap (λ m. m == 1) (e ∙ is_empty bytes (overlaps record_cmp s (gaps t)) d (all_inside s t h k inside)),
)

-- ---- errors

-- an error that is passed on stays what it is
pub err_kept : {T : Type 0} (result : Result T CompiledError) (error : CompiledError) → IsErrAnd result (λ e. e ≡ error) → (error ≡ NotCompiled → ⊥) → IfErr result (λ e. e ≡ NotCompiled → ⊥)
err_kept result error is never =
    let p = err_from_is_err_and result is in
    subst (λ r. IfErr r (λ e. e ≡ NotCompiled → ⊥)) (sym p.1) (λ e. never (sym p.2 ∙ e))
