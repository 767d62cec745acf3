-- Between the boundaries of an interval lies the version that is found there.
use Rattle.std.proofs.Common.{◌≡◌, ◌∙◌, ◌<◌, ◌≤◌, ◌&&◌, ◌||◌, ℕ, zero, suc, refl, sym, ap, subst, arith, Bool, true, false, cond, not, List, [], ◌∷◌, ◌++◌, Option, Some, None, inl, inr, is_some, length}
use Rattle.std.proofs.Math.Nat.{le-max_left, le-max_right}
use Rattle.std.proofs.lemmas.Bool.{true≢false}
use Rattle.std.proofs.lemmas.Cmp.{nat_cmp_total, tied_itself}
use Rattle.std.proofs.lemmas.List.Elements.{All-from_recursion, All-head, recursion_from_All}
use Rattle.std.specs.List.{All, AllByRecursion}
use Rattle.std.specs.Ordering.{is_gt, is_le, is_lt, nat_cmp, ordering_then}
use Rattle.std.specs.Prelude.{max}
use Rattle.std.specs.declared.cmp.Ordering.{Ordering}
use Rattle.std.specs.declared.cmp.Ordering.TheVariants.{Less, Equal, Greater}
use Rattle.std.specs.declared.ops.Bound.{Bound}
use Rattle.std.specs.declared.ops.Bound.TheVariants.{Included, Excluded, Unbounded}
use Rattle.pep440_ranges.specs.BoundOrder.{is_up_to_end, is_valid}
use Rattle.pep440_ranges.specs.RangeSegments.{Segment, contains, lies_in}
use Rattle.pep440_rs.proofs.Agreement.VersionOrder.{by_parts, turn_le, turn_lt}
use Rattle.pep440_rs.proofs.PublicParts.{unmarked}
use Rattle.pep440_rs.specs.Bounds.{Segments}
use Rattle.pep440_version.specs.Key.{Final, NoDev, PostTop, Pre, base_cmp, dev_cmp, dev_of, dev_rank, key, local_cmp, post_cmp, post_of, post_rank, rank_cmp, record_cmp, release_cmp, stage_cmp, stage_of, stage_rank, suffix_cmp}
use Rattle.pep440_version.specs.Key.KeyLaws.{record_total, release_total}
use Rattle.pep440_version.specs.Record.{Fits, Record, Text, epoch_and_release, from_parts}
use Rattle.pep440_version.specs.RoundTrip.{IsParsed, SegmentRoundTrips}
use Rattle.pep440_version.specs.declared.prerelease.Prerelease.{Prerelease}
use Rattle.pep440_version.specs.declared.prerelease.PrereleaseKind.{PrereleaseKind}
use Rattle.pep440_version.specs.declared.prerelease.PrereleaseKind.TheVariants.{Alpha, Beta, Rc}
use Rattle.pep440_sets.proofs.Intervals.{never_below_zero, not_below_least}
use Rattle.pep440_sets.proofs.LowStrings.{longer_above, low_local, low_parsed, then_less}
use Rattle.pep440_sets.proofs.Parsed.{parts_parsed}
use Rattle.pep440_sets.proofs.SetBoundaries.{parsed_unmarked}
use Rattle.pep440_sets.specs.Boundaries.{IsAboveLocal, IsAbovePosts, IsBelowVersion, IsEnd, IsInterval, IsStart, IsVersionSet}
use Rattle.pep440_sets.specs.NextVersions.{after_posts, first_dev, least}
use Rattle.pep440_sets.specs.Witnesses.{above_posts, release_above, low_string, string_after, version_between, with_low_segment}

-- ---- releases

same_number : (n : ℕ) (o : Ordering) → o ≡ Less → ordering_then (nat_cmp n n) o ≡ Less
same_number n o h = ap (λ c. ordering_then c o) (tied_itself nat_cmp_total n) ∙ h

above_release : (d : ℕ) (vs : List ℕ) → length vs ≤ d → release_cmp vs (release_above d vs) ≡ Less
above_release zero [] h = refl
above_release zero (n ∷ vs) h = absurd (omega arith)
above_release (suc d) [] h = above_release d [] (omega arith)
above_release (suc d) (n ∷ vs) h = same_number n _ (above_release d vs (omega arith))

not_below_none : (rs : List ℕ) → release_cmp rs [] ≡ Less → ⊥
not_below_none [] h = cc
not_below_none (r ∷ rs) h = go r (release_cmp rs []) h (not_below_none rs)
  where
    at_zero : (o p : Ordering) → (o ≡ Less → ⊥) → ordering_then o p ≡ Less → (p ≡ Less → ⊥) → ⊥
    at_zero Less p n h f = n refl
    at_zero Equal p n h f = f h
    at_zero Greater p n h f = cc h

    zero_least : (r : ℕ) → nat_cmp r 0 ≡ Less → ⊥
    zero_least zero h = cc
    zero_least (suc r) h = grind (arith, h)

    go : (r : ℕ) (p : Ordering) → ordering_then (nat_cmp r 0) p ≡ Less → (p ≡ Less → ⊥) → ⊥
    go r p h f = at_zero (nat_cmp r 0) p (zero_least r) h f

below_release : (d : ℕ) (vs ws : List ℕ) → length vs ≤ d → length ws ≤ d → release_cmp vs ws ≡ Less → release_cmp (release_above d vs) ws ≡ Less
below_release d [] [] a b h = absurd (cc)
below_release d (n ∷ vs) [] a b h = absurd (not_below_none (n ∷ vs) h)
below_release zero [] (w ∷ ws) a b h = absurd (omega arith)
below_release zero (n ∷ vs) (w ∷ ws) a b h = absurd (omega arith)
below_release (suc d) [] (w ∷ ws) a b h = then_less (nat_cmp 0 w) (release_cmp [] ws) (release_cmp (release_above d []) ws) h (below_release d [] ws (omega arith) (omega arith))
below_release (suc d) (n ∷ vs) (w ∷ ws) a b h = then_less (nat_cmp n w) (release_cmp vs ws) (release_cmp (release_above d vs) ws) h (below_release d vs ws (omega arith) (omega arith))

zero_fits : Fits 0
zero_fits = grind arith

one_fits : Fits 1
one_fits = grind arith

above_fits : (d : ℕ) (vs : List ℕ) → AllByRecursion Fits vs → AllByRecursion Fits (release_above d vs)
above_fits zero vs h = (one_fits, tt)
above_fits (suc d) [] h = (zero_fits, above_fits d [] tt)
above_fits (suc d) (n ∷ vs) h = (h.0, above_fits d vs h.1)

pub above_some : (d : ℕ) (vs : List ℕ) → 0 < length (release_above d vs)
above_some zero vs = omega arith
above_some (suc d) [] = omega arith
above_some (suc d) (n ∷ vs) = omega arith

-- ---- versions above post-releases

-- a lesser base is below
lesser_base : (a b : Record) → base_cmp a b ≡ Less → record_cmp a b ≡ Less
lesser_base a b h = by_parts a b ∙ ap (λ o. ordering_then o (ordering_then (suffix_cmp a b) (local_cmp a.local b.local))) h

-- of what has no lesser suffix and is below, the base is lesser
base_is_less : (B S L : Ordering) → is_lt (ordering_then S L) ≡ false → is_lt (ordering_then B (ordering_then S L)) ≡ true → B ≡ Less
base_is_less Less S L h k = refl
base_is_less Equal S L h k = absurd (true≢false (sym k ∙ h))
base_is_less Greater S L h k = absurd (true≢false (sym k))

-- a place above post-releases
abbrev top : ℕ → List ℕ → Record
top e r = after_posts e r None

-- no suffix is above the place
suffix_lower : (e : ℕ) (r : List ℕ) (w : Record) (l : Ordering) → is_lt (ordering_then (suffix_cmp (top e r) (unmarked w)) l) ≡ false
suffix_lower e r w l = go w.pre w.post w.dev
  where
    staged : (k : PrereleaseKind) (n : ℕ) (t : Ordering) → is_lt (ordering_then (ordering_then (stage_cmp Final (Pre k n)) t) l) ≡ false
    staged Alpha n t = refl
    staged Beta n t = refl
    staged Rc n t = refl

    go : (pre : Option Prerelease) (post dev : Option ℕ) →
        is_lt (ordering_then (ordering_then (stage_cmp Final (stage_of None pre dev post None)) (ordering_then (post_cmp (PostTop 0) (post_of None post)) (dev_cmp NoDev (dev_of None dev)))) l) ≡ false
    go (Some q) post dev = staged q.kind q.number _
    go None None None = refl
    go None None (Some d) = refl
    go None (Some p) None = refl
    go None (Some p) (Some d) = refl

below_version : (e : ℕ) (r : List ℕ) (w : Record) → is_lt (record_cmp (top e r) (unmarked w)) ≡ true → base_cmp (top e r) (unmarked w) ≡ Less
below_version e r w h =
    base_is_less (base_cmp (top e r) (unmarked w)) (suffix_cmp (top e r) (unmarked w)) (local_cmp [] w.local) (suffix_lower e r w (local_cmp [] w.local)) (ap is_lt (sym (by_parts (top e r) (unmarked w))) ∙ h)

below_top : (e f : ℕ) (r q : List ℕ) → is_lt (record_cmp (top e r) (top f q)) ≡ true → base_cmp (top e r) (top f q) ≡ Less
below_top e f r q h = base_is_less (base_cmp (top e r) (top f q)) Equal Equal refl (ap is_lt (sym (by_parts (top e r) (top f q))) ∙ h)

-- ---- what is found

-- the version lies between the boundaries, and strings parse to it
pub record IsFound (start end : Bound Record) (v : Record) : Type 0 where
  pub parsed : IsParsed v
  pub inside : lies_in record_cmp (start, end) v ≡ true

both_true : (a b : Bool) → a ≡ true → b ≡ true → a && b ≡ true
both_true a b h k = (λ i. h i && k i)

itself : (v : Record) → is_le (record_cmp v v) ≡ true
itself v = ap is_le (tied_itself record_total v)

-- a boundary is above the least version
least_below_top : (e : ℕ) (r : List ℕ) → is_lt (record_cmp least (top e r)) ≡ true
least_below_top e r = turn_lt least (top e r) ∙ ap is_gt (by_parts (top e r) least) ∙ table (nat_cmp e 0) (release_cmp r (0 ∷ [])) (zero_least e) (never_below_zero r)
  where
    zero_least : (e : ℕ) → is_lt (nat_cmp e 0) ≡ false
    zero_least e = grind arith

    table : (E R : Ordering) → is_lt E ≡ false → is_lt R ≡ false → is_gt (ordering_then (ordering_then E R) Greater) ≡ true
    table Less R h k = absurd (true≢false h)
    table Greater R h k = refl
    table Equal Less h k = absurd (true≢false k)
    table Equal Equal h k = refl
    table Equal Greater h k = refl

least_parsed : IsParsed least
least_parsed = parts_parsed 0 (0 ∷ []) None None (Some 0) (record { epoch = zero_fits; some = omega arith; release = All-from_recursion Fits (0 ∷ []) (zero_fits, tt) }) tt tt zero_fits

from_least : (end : Bound Record) → IsEnd end → IsFound Unbounded end least
from_least end h = record { parsed = least_parsed; inside = go end h }
  where
    go : (end : Bound Record) → IsEnd end → true && is_up_to_end record_cmp end least ≡ true
    go Unbounded h = refl
    go (Included w) h = turn_le least w ∙ ap not (ap (λ x. is_lt (record_cmp x least)) (parsed_unmarked w h.parsed) ∙ not_below_least w)
    go (Excluded w) (inl h) = h.above
    go (Excluded w) (inr h) = ap (λ x. is_lt (record_cmp least x)) h.same ∙ least_below_top w.epoch w.release

from_version_on : (v : Record) (end : Bound Record) → IsParsed v → is_valid record_cmp (Included v) end ≡ true → IsFound (Included v) end v
from_version_on v end p h = record { parsed = p; inside = both_true _ _ (itself v) (go end h) }
  where
    go : (end : Bound Record) → is_valid record_cmp (Included v) end ≡ true → is_up_to_end record_cmp end v ≡ true
    go Unbounded h = refl
    go (Included w) h = h
    go (Excluded w) h = h

-- ---- above post-releases

abbrev next_dev : ℕ → List ℕ → ℕ → Record
next_dev e r d = first_dev e (release_above d r)

next_parsed : (e : ℕ) (r : List ℕ) (d : ℕ) → Fits e → All Fits r → IsParsed (next_dev e r d)
next_parsed e r d f g =
    parts_parsed e (release_above d r) None None (Some 0)
    (record { epoch = f; some = above_some d r; release = All-from_recursion Fits (release_above d r) (above_fits d r (recursion_from_All Fits r g)) }) tt tt zero_fits

next_above : (e : ℕ) (r : List ℕ) (d : ℕ) → length r ≤ d → is_le (record_cmp (top e r) (next_dev e r d)) ≡ true
next_above e r d h = ap is_le (lesser_base (top e r) (next_dev e r d) (same_number e _ (above_release d r h)))

next_below : (e : ℕ) (r : List ℕ) (w : Record) (d : ℕ) → length r ≤ d → length w.release ≤ d → base_cmp (top e r) w ≡ Less → is_lt (record_cmp (next_dev e r d) w) ≡ true
next_below e r w d h k below =
    ap is_lt (lesser_base (next_dev e r d) w (then_less (nat_cmp e w.epoch) (release_cmp r w.release) (release_cmp (release_above d r) w.release) below (below_release d r w.release h k)))

abbrev between_max : List ℕ → List ℕ → ℕ
between_max r q = max (length r) (length q)

-- the place without its sentinel is a final release, above the post-releases of a lesser one
final_parsed : (f : ℕ) (q : List ℕ) → IsAbovePosts (top f q) → IsParsed (from_parts f q None None None [])
final_parsed f q h = parts_parsed f q None None None (record { epoch = h.valid.epoch; some = h.valid.some; release = h.valid.release }) tt tt tt

base_alike : (f : ℕ) (q : List ℕ) → ordering_then (nat_cmp f f) (release_cmp q q) ≡ Equal
base_alike f q = rw (tied_itself nat_cmp_total f, tied_itself release_total q) refl

after_final : (e f : ℕ) (r q : List ℕ) → is_lt (record_cmp (top e r) (top f q)) ≡ true → lies_in record_cmp (Included (top e r), Excluded (top f q)) (from_parts f q None None None []) ≡ true
after_final e f r q h =
    both_true _ _ (ap is_le (lesser_base (top e r) (from_parts f q None None None []) (below_top e f r q h)))
    (ap is_lt (by_parts (from_parts f q None None None []) (top f q) ∙ ap (λ o. ordering_then o Less) (base_alike f q)))

-- from a place above post-releases on
from_top : (e : ℕ) (r : List ℕ) (end : Bound Record) → Fits e → All Fits r → IsEnd end → is_valid record_cmp (Included (top e r)) end ≡ true → IsFound (Included (top e r)) end (above_posts (top e r) end)
from_top e r Unbounded f g h k = record { parsed = next_parsed e r (length r) f g; inside = both_true _ _ (next_above e r (length r) (omega arith)) refl }
from_top e r (Included w) f g h k = record { parsed = h.parsed; inside = both_true _ _ k (itself w) }
from_top e r (Excluded w) f g (inl h) k =
    let is = parsed_unmarked w h.parsed in
    let below = ap (base_cmp (top e r)) is ∙ below_version e r w (ap (λ x. is_lt (record_cmp (top e r) x)) (sym is) ∙ k) in
    subst (IsFound (Included (top e r)) (Excluded w)) (ap (λ m. cond (is_some m) (epoch_and_release w.epoch w.release) (next_dev e r (between_max r w.release))) (sym h.parsed.round_trips.no_max)) (record {
      parsed = next_parsed e r (between_max r w.release) f g;
      inside = both_true _ _ (next_above e r (between_max r w.release) (le-max_left (length r) (length w.release)))
          (next_below e r w (between_max r w.release) (le-max_left (length r) (length w.release)) (le-max_right (length r) (length w.release)) below);
    })
from_top e r (Excluded w) f g (inr h) k =
    subst (λ x. IsFound (Included (top e r)) (Excluded x) (above_posts (top e r) (Excluded x))) (sym h.same) (record {
      parsed = final_parsed w.epoch w.release (subst IsAbovePosts h.same h);
      inside = after_final e w.epoch r w.release (ap (λ x. is_lt (record_cmp (top e r) x)) (sym h.same) ∙ k);
    })

-- ---- above local versions

suffix_alike : (v : Record) → suffix_cmp v v ≡ Equal
suffix_alike v = then_equal _ _ (rank_alike (stage_rank (key v).stage)) (then_equal _ _ (rank_alike (post_rank (key v).post)) (rank_alike (dev_rank (key v).dev)))
  where
    then_equal : (o p : Ordering) → o ≡ Equal → p ≡ Equal → ordering_then o p ≡ Equal
    then_equal o p h k = rw h k

    rank_alike : (p : ℕ × ℕ) → rank_cmp p p ≡ Equal
    rank_alike p = rw (tied_itself nat_cmp_total p.0, tied_itself nat_cmp_total p.1) refl

-- one more segment is above
segment_above : (v : Record) (k : ℕ) → is_lt (record_cmp v (with_low_segment v k)) ≡ true
segment_above v k = ap is_lt (by_parts v (with_low_segment v k) ∙ parts (base_cmp v v) (suffix_cmp v v) (base_alike v.epoch v.release) (suffix_alike v) (longer_above v.local (Text (low_string k))))
  where
    parts : (B S : Ordering) → B ≡ Equal → S ≡ Equal → (l : local_cmp v.local (v.local ++ Text (low_string k) ∷ []) ≡ Less) → ordering_then B (ordering_then S (local_cmp v.local (v.local ++ Text (low_string k) ∷ []))) ≡ Less
    parts B S b s l = rw (b, s) l

-- and below what is above
segment_below : (v w : Record) → AllByRecursion SegmentRoundTrips w.local → is_lt (record_cmp v w) ≡ true → is_lt (record_cmp (with_low_segment v (string_after v.local w.local)) w) ≡ true
segment_below v w a h =
    let low = with_low_segment v (string_after v.local w.local) in
    ap is_lt (by_parts low w ∙ then_less (base_cmp v w) _ _ (sym (by_parts v w) ∙ is_less (record_cmp v w) h) (λ k. then_less (suffix_cmp v w) _ _ k (low_local v.local w.local a)))
  where
    is_less : (o : Ordering) → is_lt o ≡ true → o ≡ Less
    is_less Less h = refl
    is_less Equal h = absurd (true≢false (sym h))
    is_less Greater h = absurd (true≢false (sym h))

from_local : (v : Record) (end : Bound Record) → IsAboveLocal v → IsEnd end → is_valid record_cmp (Excluded v) end ≡ true → IsFound (Excluded v) end (version_between (Excluded v) end)
from_local v Unbounded p h k = record { parsed = low_parsed v 0 p.parsed; inside = both_true _ _ (segment_above v 0) refl }
from_local v (Included w) p h k = record { parsed = h.parsed; inside = both_true _ _ k (itself w) }
from_local v (Excluded w) p h k = record {
  parsed = low_parsed v (string_after v.local w.local) p.parsed;
  inside = both_true _ _ (segment_above v (string_after v.local w.local)) (segment_below v w (rereads h) k);
}
  where
    rereads : IsBelowVersion w → AllByRecursion SegmentRoundTrips w.local
    rereads (inl h) = recursion_from_All SegmentRoundTrips w.local h.parsed.round_trips.local
    rereads (inr h) = subst (λ x. AllByRecursion SegmentRoundTrips x.local) (sym h.same) tt

-- ---- any interval

pub found_between : (start end : Bound Record) → IsStart start → IsEnd end → is_valid record_cmp start end ≡ true → IsFound start end (version_between start end)
found_between Unbounded end h k valid = from_least end k
found_between (Included v) end (inl h) k valid =
    subst (IsFound (Included v) end) (ap (λ m. cond (is_some m) (above_posts v end) v) (sym h.parsed.round_trips.no_max)) (from_version_on v end h.parsed valid)
found_between (Included v) end (inr h) k valid =
    subst (λ x. IsFound (Included x) end (version_between (Included x) end)) (sym h.same)
    (from_top v.epoch v.release end h.valid.epoch h.valid.release k (ap (λ x. is_valid record_cmp (Included x) end) (sym h.same) ∙ valid))
found_between (Excluded v) end h k valid = from_local v end h k valid

in_first : (s : Segment Record) (set : Segments) (v : Record) → lies_in record_cmp s v ≡ true → contains record_cmp (s ∷ set) v ≡ true
in_first s set v h = ap (λ b. b || contains record_cmp set v) h

pub found_in : (s : Segment Record) (set : Segments) → IsVersionSet (s ∷ set) →
    IsParsed (version_between s.0 s.1) × (contains record_cmp (s ∷ set) (version_between s.0 s.1) ≡ true)
found_in s set h =
    let interval = All-head IsInterval s set h.intervals in
    let found = found_between s.0 s.1 interval.0 interval.1 h.apart.0 in
    (found.parsed, in_first s set (version_between s.0 s.1) found.inside)
