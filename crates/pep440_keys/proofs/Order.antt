-- Sort keys are in the order of the records, and the records that texts mean have one that tells them apart; so a version lies in a segment exactly where its key lies in the segment's interval.
use Rattle.std.proofs.Common.{◌≡◌, ◌∙◌, ℕ, zero, suc, ◌<◌, List, [], ◌∷◌, ◌++◌, ◌↔◌, sym, ap, append_assoc, Bool, true, false, Option, Some, None, IfSome, lit<, if◌then◌else◌, not, ◌&&◌, ◌||◌, map, refl, arith}
use Rattle.std.proofs.Math.Nat.{zero-lt-suc}
use Rattle.std.proofs.lemmas.Bool.{true≢false}
use Rattle.std.proofs.lemmas.Cmp.{nat_list_cmp_total, tied_itself}
use Rattle.std.proofs.lemmas.List.{append-nil}
use Rattle.std.proofs.lemmas.List.Elements.{All-from_recursion, recursion_from_All, All-tail}
use Rattle.std.specs.Cmp.{second_so}
use Rattle.std.specs.Cmp.Lexicographic.{slice_cmp}
use Rattle.std.specs.FinMap.{nat_cmp-IsAntisymmetric, slice_cmp-IsAntisymmetric}
use Rattle.std.specs.List.{All, AllByRecursion, list_all}
use Rattle.std.specs.Ordering.{nat_cmp, ordering_then, ordering_reverse, is_lt, is_le}
use Rattle.std.specs.Prelude.{◌==◌}
use Rattle.std.specs.declared.cmp.Ordering.{Ordering}
use Rattle.std.specs.declared.cmp.Ordering.TheVariants.{Equal}
use Rattle.pep440_version.proofs.Ordering.Comparisons.{then_assoc, then_none}
use Rattle.pep440_version.proofs.RoundTrip.PrintIsRead.{derived_record, derived_rereads}
use Rattle.pep440_version.specs.declared.prerelease.Prerelease.{Prerelease}
use Rattle.pep440_version.specs.Grammar.{Derives}
use Rattle.pep440_version.specs.Key.{dev_of, dev_rank, key, local_cmp, rank_cmp, post_of, post_rank, record_cmp, release_cmp, stage_of, stage_rank}
use Rattle.pep440_version.specs.Patterns.{DerivesPattern}
use Rattle.pep440_version.specs.Record.{Fits, Record, LocalSegmentValue, Text, Number}
use Rattle.pep440_version.specs.RoundTrip.{is_lower, SegmentRoundTrips}
use Rattle.pep440_version.specs.Key.Trim.{trim, prepend_trimmed}
use Rattle.pep440_keys.proofs.Codes.{IsPlain, local_is_code, number_is_code, place_is_code, release_is_code}
use Rattle.pep440_keys.specs.SortKeys.{HasNoZero, IsKeyed, key_bytes, local_bytes, number_bytes, rank_bytes, release_bytes}
use Rattle.std.specs.Option.{option_map_or}
use Rattle.std.specs.declared.ops.Bound.{Bound}
use Rattle.std.specs.declared.ops.Bound.TheVariants.{Included, Excluded, Unbounded}
use Rattle.pep440_ranges.specs.BoundOrder.{is_from_start, is_up_to_end}
use Rattle.pep440_ranges.specs.RangeSegments.{Segment, lies_in}
use Rattle.pep440_keys.specs.RangeKeys.{HasKeys, HoldsKeys, IsKeyedBound, IsKeyedSegment, high_key, is_below_key, is_within, low_key, segment_interval}
use Rattle.pep440_version.specs.Key.KeyLaws.{record_total}
use Rattle.std.specs.declared.cmp.Ordering.TheVariants as ord

-- ---- sort keys are in the order of the records; and the records that texts mean have one that tells them apart

-- ---- what is coded fits

zero_fits : Fits 0
zero_fits = lit< tt

pub stage_fits : (min : Option ℕ) (pre : Option Prerelease) (dev post max : Option ℕ) → IfSome pre (λ p. Fits p.number) → Fits (stage_rank (stage_of min pre dev post max)).1
stage_fits (Some n) pre dev post max h = zero_fits
stage_fits None (Some p) dev post max h = h
stage_fits None None None post max h = zero_fits
stage_fits None None (Some d) None None h = zero_fits
stage_fits None None (Some d) None (Some m) h = zero_fits
stage_fits None None (Some d) (Some p) max h = zero_fits

pub post_fits : (max post : Option ℕ) → IfSome max Fits → IfSome post Fits → Fits (post_rank (post_of max post)).1
post_fits (Some m) post h k = h
post_fits None (Some p) h k = k
post_fits None None h k = zero_fits

pub dev_fits : (min dev : Option ℕ) → IfSome min Fits → IfSome dev Fits → Fits (dev_rank (dev_of min dev)).1
dev_fits (Some n) dev h k = h
dev_fits None (Some d) h k = k
dev_fits None None h k = zero_fits

before_fits : (b : Bool) (x : ℕ) → Fits x → AllByRecursion Fits (if b then [] else x ∷ [])
before_fits true x h = tt
before_fits false x h = (h, tt)

step_fits : (x : ℕ) (rest : List ℕ) → Fits x → AllByRecursion Fits rest → AllByRecursion Fits (prepend_trimmed x rest)
step_fits x [] h k = before_fits (x == 0) x h
step_fits x (y ∷ rest) h k = (h, k)

trim_fits : (xs : List ℕ) → AllByRecursion Fits xs → AllByRecursion Fits (trim xs)
trim_fits [] h = h
trim_fits (x ∷ xs) h = step_fits x (trim xs) h.0 (trim_fits xs h.1)

-- ---- the order

parts_in_turn : (e r s p d l u : List ℕ) → (e ++ r ++ s ++ p ++ d ++ l) ++ u ≡ e ++ (r ++ (s ++ (p ++ (d ++ (l ++ u)))))
parts_in_turn e r s p d l u = simp append_assoc

-- six comparisons, and one behind them
six_in_turn : (a b c d e f o : Ordering)
    → ordering_then a (ordering_then b (ordering_then c (ordering_then d (ordering_then e (ordering_then f o)))))
    ≡ ordering_then (ordering_then a (ordering_then b (ordering_then c (ordering_then d (ordering_then e f))))) o
six_in_turn a b c d e f o = sym (simp then_assoc)

pub release_fits : (r : Record) → IsKeyed r → All Fits (trim r.release)
release_fits r h = All-from_recursion Fits (trim r.release) (trim_fits r.release (recursion_from_All Fits r.release h.valid.release))

local_plain : (r : Record) → IsKeyed r → All IsPlain r.local
local_plain r h = λ k s below. (h.valid.local k s below, h.local k s below)

-- whatever bytes follow the keys
pub followed_in_order : (r q : Record) → IsKeyed r → IsKeyed q → (u v : List ℕ) → slice_cmp nat_cmp (key_bytes r ++ u) (key_bytes q ++ v) ≡ ordering_then (record_cmp r q) (slice_cmp nat_cmp u v)
followed_in_order r q h k u v =
    let E : Record → List ℕ = λ x. number_bytes 0 x.epoch in
    let R : Record → List ℕ = λ x. release_bytes x.release in
    let S : Record → List ℕ = λ x. rank_bytes (stage_rank (key x).stage) in
    let P : Record → List ℕ = λ x. rank_bytes (post_rank (key x).post) in
    let D : Record → List ℕ = λ x. rank_bytes (dev_rank (key x).dev) in
    let L : Record → List ℕ = λ x. local_bytes x.local in
    let epoch = nat_cmp r.epoch q.epoch in
    let release = release_cmp r.release q.release in
    let stage = rank_cmp (stage_rank (key r).stage) (stage_rank (key q).stage) in
    let post = rank_cmp (post_rank (key r).post) (post_rank (key q).post) in
    let dev = rank_cmp (dev_rank (key r).dev) (dev_rank (key q).dev) in
    let local = local_cmp r.local q.local in
    (λ i. slice_cmp nat_cmp (parts_in_turn (E r) (R r) (S r) (P r) (D r) (L r) u i) (parts_in_turn (E q) (R q) (S q) (P q) (D q) (L q) v i))
    ∙ (number_is_code 0).splits r.epoch q.epoch h.valid.epoch k.valid.epoch _ _
    ∙ ap (ordering_then epoch) (release_is_code.splits r.release q.release (release_fits r h) (release_fits q k) _ _
    ∙ ap (ordering_then release) (place_is_code.splits (stage_rank (key r).stage) (stage_rank (key q).stage) (stage_fits _ _ _ _ _ h.valid.pre) (stage_fits _ _ _ _ _ k.valid.pre) _ _
    ∙ ap (ordering_then stage) (place_is_code.splits (post_rank (key r).post) (post_rank (key q).post) (post_fits _ _ h.valid.max h.valid.post) (post_fits _ _ k.valid.max k.valid.post) _ _
    ∙ ap (ordering_then post) (place_is_code.splits (dev_rank (key r).dev) (dev_rank (key q).dev) (dev_fits _ _ h.valid.min h.valid.dev) (dev_fits _ _ k.valid.min k.valid.dev) _ _
    ∙ ap (ordering_then dev) (local_is_code.splits r.local q.local (local_plain r h) (local_plain q k) u v)))))
    ∙ six_in_turn epoch release stage post dev local (slice_cmp nat_cmp u v)

pub keys_in_order : (r q : Record) → IsKeyed r → IsKeyed q → slice_cmp nat_cmp (key_bytes r) (key_bytes q) ≡ record_cmp r q
keys_in_order r q h k =
    sym (λ i. slice_cmp nat_cmp (append-nil (key_bytes r) i) (append-nil (key_bytes q) i)) ∙ followed_in_order r q h k [] [] ∙ then_none (record_cmp r q)

-- ---- equal keys

pub same_keys : (r q : Record) → IsKeyed r → IsKeyed q → (key_bytes r ≡ key_bytes q) ↔ (record_cmp r q ≡ Equal)
same_keys r q h k = (
  λ e. sym (keys_in_order r q h k) ∙ ap (slice_cmp nat_cmp (key_bytes r)) (sym e) ∙ tied_itself nat_list_cmp_total (key_bytes r),
  λ e. slice_cmp-IsAntisymmetric nat_cmp-IsAntisymmetric (key_bytes r) (key_bytes q) (keys_in_order r q h k ∙ e),
)

-- ---- what texts mean

lower_above : (t : List ℕ) → list_all is_lower t ≡ true → AllByRecursion (λ b. 0 < b) t
lower_above [] h = tt
lower_above (zero ∷ t) h = absurd (true≢false (sym h))
lower_above (suc b ∷ t) h = (zero-lt-suc b, lower_above t (second_so (is_lower (suc b)) (list_all is_lower t) h))

pub no_zero : (s : LocalSegmentValue) → SegmentRoundTrips s → HasNoZero s
no_zero (Text t) h = All-from_recursion (λ b. 0 < b) t (lower_above t h.1)
no_zero (Number n) h = tt

pub derived_keyed : (text : List ℕ) (r : Record) → Derives text r → IsKeyed r
derived_keyed text r d = record { valid = derived_record text r d; local = λ k s h. no_zero _ ((derived_rereads text r d).local k s h) }

pub pattern_keyed : (text : List ℕ) (r : Record) (star : Bool) → DerivesPattern text r star → IsKeyed r
pattern_keyed text r true d = derived_keyed d.0 r d.1
pattern_keyed text r false d = derived_keyed text r d

pub texts_in_order : (s t : List ℕ) (r q : Record) → Derives s r → Derives t q → slice_cmp nat_cmp (key_bytes r) (key_bytes q) ≡ record_cmp r q
texts_in_order s t r q d e = keys_in_order r q (derived_keyed s r d) (derived_keyed t q e)

-- ---- a version lies in a segment exactly where its key lies in the segment's interval

-- ---- a key beside that of a bound

-- one byte behind the other key: as if equal keys were less
behind : (v x : Record) → IsKeyed v → IsKeyed x → slice_cmp nat_cmp (key_bytes v) (key_bytes x ++ 0 ∷ []) ≡ ordering_then (record_cmp v x) ord.Less
behind v x h k = sym (λ i. slice_cmp nat_cmp (append-nil (key_bytes v) i) (key_bytes x ++ 0 ∷ [])) ∙ followed_in_order v x h k [] (0 ∷ [])

back_le : (o : Ordering) → is_le (ordering_reverse o) ≡ not (is_lt o)
back_le ord.Less = refl
back_le ord.Equal = refl
back_le ord.Greater = refl

back_lt : (o : Ordering) → is_lt (ordering_reverse o) ≡ not (is_lt (ordering_then o ord.Less))
back_lt ord.Less = refl
back_lt ord.Equal = refl
back_lt ord.Greater = refl

le_behind : (o : Ordering) → is_lt (ordering_then o ord.Less) ≡ is_le o
le_behind ord.Less = refl
le_behind ord.Equal = refl
le_behind ord.Greater = refl

-- ---- bounds

from_low : (start : Bound Record) (v : Record) → IsKeyedBound start → IsKeyed v → option_map_or (λ low. not (is_below_key (key_bytes v) low)) (low_key start) true ≡ is_from_start record_cmp start v
from_low (Included x) v k h = ap (λ o. not (is_lt o)) (keys_in_order v x h k) ∙ sym (ap is_le (record_total.antisymm x v) ∙ back_le (record_cmp v x))
from_low (Excluded x) v k h = ap (λ o. not (is_lt o)) (behind v x h k) ∙ sym (ap is_lt (record_total.antisymm x v) ∙ back_lt (record_cmp v x))
from_low Unbounded v k h = refl

below_high : (end : Bound Record) (v : Record) → IsKeyedBound end → IsKeyed v → option_map_or (λ high. is_below_key (key_bytes v) high) (high_key end) true ≡ is_up_to_end record_cmp end v
below_high (Included x) v k h = ap is_lt (behind v x h k) ∙ le_behind (record_cmp v x)
below_high (Excluded x) v k h = ap is_lt (keys_in_order v x h k)
below_high Unbounded v k h = refl

-- ---- segments

both : (a b c d : Bool) → a ≡ c → b ≡ d → a && b ≡ c && d
both a b c d p q = cc

either : (a b c d : Bool) → a ≡ c → b ≡ d → a || b ≡ c || d
either a b c d p q = cc

pub in_segment : (s : Segment Record) (v : Record) → IsKeyedSegment s → IsKeyed v → is_within (segment_interval s) (key_bytes v) ≡ lies_in record_cmp s v
in_segment s v k h = both _ _ _ _ (from_low s.0 v k.0 h) (below_high s.1 v k.1 h)

pub in_range : (range : List (Segment Record)) → HasKeys range → HoldsKeys range (map segment_interval range)
in_range [] k v h = refl
in_range (s ∷ range) k v h = either _ _ _ _ (in_segment s v (k 0 s (omega arith)) h) (in_range range (All-tail IsKeyedSegment s range k) v h)
