-- The members of a list of pairs contain the releases within the pairs.
use Rattle.std.proofs.Common.{◌≡◌, ◌⊎◌, inl, inr, Bool, true, false, not, ◌&&◌, ◌||◌, List, [], ◌∷◌, IsTrue, refl, sym, ap, ◌∙◌, arith}
use mathlib.Core.Bool.{true≢false}
use Rattle.std.proofs.lemmas.List.Elements.{All-tail}
use Rattle.std.proofs.lemmas.List.Sorted.{All-permutation, IsPermutation-sym}
use Rattle.std.proofs.lemmas.List.Sums.{AllPass-from_list_all, list_all-from_AllPass}
use Rattle.std.specs.List.{All}
use Rattle.std.specs.List.Sorted.{IsPermutation}
use Rattle.std.specs.declared.ops.Bound.{Bound}
use Rattle.pep440_rs.proofs.Agreement.VersionOrder.{both}
use Rattle.pep440_rs.proofs.Within.PairMembers.{append_matches, pair_agrees, gap_holds, gap_only}
use Rattle.pep440_rs.specs.Agreement.{IsReleaseOnly}
use Rattle.pep440_rs.specs.BoundsAgreement.{IsReleaseBound, IsReleasePair, is_followed, is_known_gap, IsOrdered, KnowsGaps, HoldsWithin, HoldsOnlyWithin}
use Rattle.pep440_rs.specs.Matching.{matches, list_matches}
use Rattle.pep440_rs.specs.Specifiers.{Spec}
use Rattle.pep440_rs.specs.Members.{pair_members, gap_members, gaps_members, last_end, list_members}
use Rattle.pep440_ranges.proofs.Places.{below, start_place, end_place, value_place, valid_is, upto_is, from_is, asym, le_le, lt_le, lt_lt}
use Rattle.pep440_ranges.specs.BoundOrder.{is_valid, is_from_start, is_up_to_end}
use Rattle.pep440_ranges.specs.RangeSegments.{Segment, lies_in, contains}
use Rattle.pep440_version.specs.Key.{record_cmp}
use Rattle.pep440_version.specs.Key.KeyLaws.{record_total}
use Rattle.pep440_version.specs.Record.{Record}

-- ---- tests

or_cases : (a b : Bool) → a || b ≡ true → (a ≡ true) ⊎ (b ≡ true)
or_cases true b h = inl refl
or_cases false b h = inr h

or_left : (a b : Bool) → a ≡ true → a || b ≡ true
or_left true b h = refl
or_left false b h = absurd (true≢false (sym h))

or_right : (a b : Bool) → b ≡ true → a || b ≡ true
or_right true b h = refl
or_right false b h = h

and_left : (a b : Bool) → a && b ≡ true → a ≡ true
and_left true b h = refl
and_left false b h = h

and_right : (a b : Bool) → a && b ≡ true → b ≡ true
and_right true b h = h
and_right false b h = absurd (true≢false (sym h))

not_true : (b : Bool) → not b ≡ true → b ≡ false
not_true true h = sym h
not_true false h = refl

-- ---- the order of the bounds

followed_places : (e b : Bound Record) → is_followed e b ≡ true → below record_cmp (start_place b) (end_place e) ≡ false
followed_places e b h = sym (valid_is record_cmp b e) ∙ not_true _ h

-- what is up to an end is up to the next one
up_next : (e : Bound Record) (p : Segment Record) (u : Record) → is_followed e p.0 ≡ true → is_valid record_cmp p.0 p.1 ≡ true → is_up_to_end record_cmp e u ≡ true → is_up_to_end record_cmp p.1 u ≡ true
up_next e p u f v h =
    upto_is record_cmp p.1 u
    ∙ lt_lt record_total (value_place u) (start_place p.0) (end_place p.1)
    (lt_le record_total (value_place u) (end_place e) (start_place p.0) (sym (upto_is record_cmp e u) ∙ h) (followed_places e p.0 f))
    (sym (valid_is record_cmp p.0 p.1) ∙ v)

-- what is from a start on is from the one before on
from_back : (s e b : Bound Record) (u : Record) → is_valid record_cmp s e ≡ true → is_followed e b ≡ true → is_from_start record_cmp b u ≡ true → is_from_start record_cmp s u ≡ true
from_back s e b u v f h =
    from_is record_total s u
    ∙ ap not
    (le_le record_total (start_place s) (start_place b) (value_place u)
    (asym record_total (start_place s) (start_place b) (lt_le record_total (start_place s) (end_place e) (start_place b) (sym (valid_is record_cmp s e) ∙ v) (followed_places e b f)))
    (not_true _ (sym (from_is record_total b u) ∙ h)))

-- ---- by induction on the pairs

-- the pairs are valid segments, each followed by the next, and the first follows what ends so
abbrev IsOrderedAfter : Bound Record → List (Segment Record) → Type 0
IsOrderedAfter end [] = Unit {0}
IsOrderedAfter end (p ∷ pairs) = IsTrue (is_followed end p.0) × IsTrue (is_valid record_cmp p.0 p.1) × IsOrderedAfter p.1 pairs

ordered_after : (p : Segment Record) (pairs : List (Segment Record)) → IsOrdered (p ∷ pairs) → IsTrue (is_valid record_cmp p.0 p.1) × IsOrderedAfter p.1 pairs
ordered_after p [] o = (o, tt)
ordered_after p (q ∷ pairs) o = let rest = ordered_after q pairs o.2 in (o.0, (o.1, rest.0, rest.1))

abbrev KnowsGapsAfter : Bound Record → List (Segment Record) → Type 0
KnowsGapsAfter end [] = Unit {0}
KnowsGapsAfter end (p ∷ pairs) = IsTrue (is_known_gap end p.0) × KnowsGapsAfter p.1 pairs

known_after : (p : Segment Record) (pairs : List (Segment Record)) → KnowsGaps (p ∷ pairs) → KnowsGapsAfter p.1 pairs
known_after p [] g = tt
known_after p (q ∷ pairs) g = (g.0, known_after q pairs g.1)

-- what is up to an end is in no later gap, and up to the last end
after : (e : Bound Record) (pairs : List (Segment Record)) (u : Record) → IsReleaseBound e → IsOrderedAfter e pairs → All IsReleasePair pairs → IsReleaseOnly u →
    is_up_to_end record_cmp e u ≡ true → (list_matches (gaps_members e pairs) u ≡ true) × (is_up_to_end record_cmp (last_end e pairs) u ≡ true)
after e [] u r k all q h = (refl, h)
after e (p ∷ pairs) u r k all q h =
    let one = all 0 p (omega arith) in
    let rest = after p.1 pairs u one.1 k.2 (All-tail IsReleasePair p pairs all) q (up_next e p u k.0 k.1 h) in
    (append_matches (gap_members e p.0) (gaps_members p.1 pairs) u ∙ both _ _ true true (gap_holds e p.0 u r one.0 q (or_left _ _ h)) rest.0, rest.1)

-- in none of the gaps, and between the first start and the last end
abbrev spans : Bound Record → Bound Record → List (Segment Record) → Record → Bool
spans s e pairs u = list_matches (gaps_members e pairs) u && lies_in record_cmp (s, last_end e pairs) u

within : (s e : Bound Record) (pairs : List (Segment Record)) (u : Record) → IsReleaseBound e → is_valid record_cmp s e ≡ true → IsOrderedAfter e pairs → All IsReleasePair pairs → IsReleaseOnly u →
    contains record_cmp ((s, e) ∷ pairs) u ≡ true → spans s e pairs u ≡ true
within s e [] u r v k all q h = last (lies_in record_cmp (s, e) u) h
  where
    last : (b : Bool) → b || false ≡ true → b ≡ true
    last true h = refl
    last false h = h
within s e (p ∷ pairs) u r v k all q h = go (or_cases (lies_in record_cmp (s, e) u) (contains record_cmp (p ∷ pairs) u) h) (within p.0 p.1 pairs u one.1 k.1 k.2 (All-tail IsReleasePair p pairs all) q)
  where
    one : IsReleasePair p
    one = all 0 p (omega arith)

    go : (lies_in record_cmp (s, e) u ≡ true) ⊎ (contains record_cmp (p ∷ pairs) u ≡ true) → (contains record_cmp (p ∷ pairs) u ≡ true → spans p.0 p.1 pairs u ≡ true) → spans s e (p ∷ pairs) u ≡ true
    go (inl here) rest =
        let a = after e (p ∷ pairs) u r k all q (and_right _ _ here) in
        both _ _ true true a.0 (both _ _ true true (and_left _ _ here) a.1)
    go (inr there) rest =
        let i = rest there in
        let from = and_left _ _ (and_right _ _ i) in
        both _ _ true true
        (append_matches (gap_members e p.0) (gaps_members p.1 pairs) u ∙ both _ _ true true (gap_holds e p.0 u r one.0 q (or_right _ _ from)) (and_left _ _ i))
        (both _ _ true true (from_back s e p.0 u v k.0 from) (and_right _ _ (and_right _ _ i)))

only : (s e : Bound Record) (pairs : List (Segment Record)) (u : Record) → IsReleaseBound e → All IsReleasePair pairs → KnowsGapsAfter e pairs → IsReleaseOnly u →
    spans s e pairs u ≡ true → contains record_cmp ((s, e) ∷ pairs) u ≡ true
only s e [] u r all g q h = or_left _ _ h
only s e (p ∷ pairs) u r all g q h =
    go (or_cases (is_up_to_end record_cmp e u) (is_from_start record_cmp p.0 u) (gap_only e p.0 u r one.0 q g.0 (and_left (list_matches (gap_members e p.0) u) (list_matches (gaps_members p.1 pairs) u) gaps))) (only p.0 p.1 pairs u one.1 (All-tail IsReleasePair p pairs all) g.1 q)
  where
    one : IsReleasePair p
    one = all 0 p (omega arith)

    gaps : list_matches (gap_members e p.0) u && list_matches (gaps_members p.1 pairs) u ≡ true
    gaps = sym (append_matches (gap_members e p.0) (gaps_members p.1 pairs) u) ∙ and_left (list_matches (gaps_members e (p ∷ pairs)) u) (lies_in record_cmp (s, last_end p.1 pairs) u) h

    bounds : lies_in record_cmp (s, last_end p.1 pairs) u ≡ true
    bounds = and_right (list_matches (gaps_members e (p ∷ pairs)) u) (lies_in record_cmp (s, last_end p.1 pairs) u) h

    start : is_from_start record_cmp s u ≡ true
    start = and_left (is_from_start record_cmp s u) (is_up_to_end record_cmp (last_end p.1 pairs) u) bounds

    last : is_up_to_end record_cmp (last_end p.1 pairs) u ≡ true
    last = and_right (is_from_start record_cmp s u) (is_up_to_end record_cmp (last_end p.1 pairs) u) bounds

    later : list_matches (gaps_members p.1 pairs) u ≡ true
    later = and_right (list_matches (gap_members e p.0) u) (list_matches (gaps_members p.1 pairs) u) gaps

    go : (is_up_to_end record_cmp e u ≡ true) ⊎ (is_from_start record_cmp p.0 u ≡ true) → (spans p.0 p.1 pairs u ≡ true → contains record_cmp (p ∷ pairs) u ≡ true) →
        contains record_cmp ((s, e) ∷ p ∷ pairs) u ≡ true
    go (inl up) rest = or_left (lies_in record_cmp (s, e) u) (contains record_cmp (p ∷ pairs) u) (both _ _ true true start up)
    go (inr from) rest = or_right (lies_in record_cmp (s, e) u) (contains record_cmp (p ∷ pairs) u) (rest (both _ _ true true later (both _ _ true true from last)))

-- ---- the whole list

last_release : (e : Bound Record) (pairs : List (Segment Record)) → IsReleaseBound e → All IsReleasePair pairs → IsReleaseBound (last_end e pairs)
last_release e [] r all = r
last_release e (p ∷ pairs) r all = last_release p.1 pairs (all 0 p (omega arith)).1 (All-tail IsReleasePair p pairs all)

spans_is : (p : Segment Record) (pairs : List (Segment Record)) (u : Record) → All IsReleasePair (p ∷ pairs) → IsReleaseOnly u → list_matches (list_members (p ∷ pairs)) u ≡ spans p.0 p.1 pairs u
spans_is p pairs u all q =
    let one = all 0 p (omega arith) in
    append_matches (gaps_members p.1 pairs) (pair_members p.0 (last_end p.1 pairs)) u
    ∙ both _ _ _ _ refl (pair_agrees (p.0, last_end p.1 pairs) (one.0, last_release p.1 pairs one.1 (All-tail IsReleasePair p pairs all)) u q)

-- the arrangement makes no difference
arranged : (xs ys : List Spec) (u : Record) → IsPermutation xs ys → list_matches xs u ≡ true → list_matches ys u ≡ true
arranged xs ys u k h =
    list_all-from_AllPass (λ m. matches m.operator m.version u) ys (All-permutation (λ m. matches m.operator m.version u ≡ true) xs ys k (AllPass-from_list_all (λ m. matches m.operator m.version u) xs h))

same_tests : (a b : Bool) → (a ≡ true → b ≡ true) → (b ≡ true → a ≡ true) → a ≡ b
same_tests true b p q = sym (p refl)
same_tests false true p q = q refl
same_tests false false p q = refl

pub contains_within : (pairs : List (Segment Record)) (members : List Spec) → IsOrdered pairs → All IsReleasePair pairs → IsPermutation (list_members pairs) members → HoldsWithin pairs members
contains_within [] members o all k v q h = absurd o
contains_within (p ∷ pairs) members o all k v q h =
    let ordered = ordered_after p pairs o in
    arranged (list_members (p ∷ pairs)) members v k
    (spans_is p pairs v all q ∙ within p.0 p.1 pairs v (all 0 p (omega arith)).1 ordered.0 ordered.1 (All-tail IsReleasePair p pairs all) q h)

pub contains_only_within : (pairs : List (Segment Record)) (members : List Spec) → IsOrdered pairs → All IsReleasePair pairs → KnowsGaps pairs → IsPermutation (list_members pairs) members →
    HoldsOnlyWithin pairs members
contains_only_within [] members o all g k v q = absurd o
contains_only_within (p ∷ pairs) members o all g k v q =
    same_tests _ _
    (λ h. only p.0 p.1 pairs v (all 0 p (omega arith)).1 (All-tail IsReleasePair p pairs all) (known_after p pairs g) q
    (sym (spans_is p pairs v all q) ∙ arranged members (list_members (p ∷ pairs)) v (IsPermutation-sym (list_members (p ∷ pairs)) members k) h))
    (λ h. contains_within (p ∷ pairs) members o all k v q h)
