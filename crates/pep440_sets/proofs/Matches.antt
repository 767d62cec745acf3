-- The set of each operator holds what matches.
use Rattle.std.proofs.Common.{◌≡◌, ◌≢◌, ◌==◌, ℕ, Bool, true, false, cond, not, ◌&&◌, List, [], ◌∷◌, Some, length, refl, sym, ap, ◌∙◌, subst}
use mathlib.Core.Bool.{true≢false}
use Rattle.std.proofs.Math.Dec.{eqb-suc-zero}
use Rattle.std.proofs.lemmas.List.Elements.{recursion_from_All}
use Rattle.std.specs.List.{AllByRecursion}
use Rattle.std.specs.Ordering.{is_eq, is_ge, is_gt, is_le, is_lt}
use Rattle.std.specs.declared.cmp.Ordering.{Ordering}
use Rattle.std.specs.declared.cmp.Ordering.TheVariants as ord
use Rattle.pep440_ranges.proofs.Laws.{gaps_are_range, gaps_hold_the_rest}
use Rattle.pep440_ranges.specs.RangeSegments.{IsRange, contains}
use Rattle.pep440_rs.proofs.Agreement.Single.{alone_holds}
use Rattle.pep440_rs.proofs.Agreement.VersionOrder.{ge_not_lt, is_plain, plain}
use Rattle.pep440_rs.proofs.PublicParts.{below_bare, is_unmarked, unmarked}
use Rattle.pep440_rs.specs.Agreement.{HasOperand}
use Rattle.pep440_rs.specs.Bounds.{alone}
use Rattle.pep440_rs.specs.Denoted.{IsDenotable}
use Rattle.pep440_rs.specs.Matching.{has_local, matches, without_last}
use Rattle.pep440_rs.specs.Specifiers.{Spec}
use Rattle.pep440_rs.specs.declared.specifier.operator.Operator.{Operator}
use Rattle.pep440_rs.specs.declared.specifier.operator.Operator.TheVariants.{Equal, EqualStar, ExactEqual, NotEqual, NotEqualStar, TildeEqual, LessThan, LessThanEqual, GreaterThan, GreaterThanEqual}
use Rattle.pep440_version.proofs.RoundTrip.PrintIsRead.{derived_record}
use Rattle.pep440_version.specs.Key.{record_cmp}
use Rattle.pep440_version.specs.Key.KeyLaws.{record_total}
use Rattle.pep440_version.specs.Record.{Fits, IsRecord, LocalSegmentValue, Record, epoch_and_release, from_parts}
use Rattle.pep440_sets.proofs.AfterParts.{HasSuffixesThatFit}
use Rattle.pep440_sets.proofs.Exclusive.{greater_holds, less_holds}
use Rattle.pep440_sets.proofs.Intervals.{after_holds, alone_is_range, below_holds, below_is_range, between_holds, between_is_range, from_holds, from_is_range}
use Rattle.pep440_sets.proofs.Prefixes.{below_dev, is_below_end, star_holds as prefix_holds, tilde_holds}
use Rattle.pep440_rs.specs.LiteralMatching.{matches_literally}
use Rattle.pep440_sets.specs.NextVersions.{after_release_prefix, after_public, first_dev}
use Rattle.pep440_sets.specs.Sets.{HoldsMatches, above_start, below_end, between, equal_to, specifier_set, prefix_set}

-- the numbers of a version fit
pub record HasFits (v : Record) : Type 0 where
  pub epoch : Fits v.epoch
  pub release : AllByRecursion Fits v.release
  pub suffixes : HasSuffixesThatFit v

pub has_fits : (v : Record) → IsRecord v → HasFits v
has_fits v h = record { epoch = h.epoch; release = recursion_from_All Fits v.release h.release; suffixes = record { pre = h.pre; post = h.post; dev = h.dev } }

-- what is to be shown
abbrev For : Operator → Record → Record → Type 0
For o s v = contains record_cmp (specifier_set o s) (unmarked v) ≡ matches_literally o s (unmarked v)

not_not : (b : Bool) → not (not b) ≡ b
not_not true = refl
not_not false = refl

le_not_gt : (o : Ordering) → is_le o ≡ not (is_gt o)
le_not_gt ord.Less = refl
le_not_gt ord.Equal = refl
le_not_gt ord.Greater = refl

-- ---- inclusive comparisons

from_version_holds : (s v : Record) → not (is_lt (record_cmp (unmarked v) (plain s))) ≡ is_ge (record_cmp (plain v) (plain s))
from_version_holds s v = ap not (below_bare (unmarked v) (plain s)) ∙ sym (ge_not_lt (record_cmp (plain v) (plain s)))

up_to_version : (s v : Record) → HasFits v → is_lt (record_cmp (unmarked v) (after_public (plain s))) ≡ is_le (record_cmp (plain v) (plain s))
up_to_version s v f =
    sym (not_not (is_lt (record_cmp (unmarked v) (after_public (plain s)))))
    ∙ ap not (after_holds s v f.suffixes) ∙ sym (le_not_gt (record_cmp (plain v) (plain s)))

-- ---- `==`

both_ways : (o : Ordering) → is_ge o && is_le o ≡ is_eq o
both_ways ord.Less = refl
both_ways ord.Equal = refl
both_ways ord.Greater = refl

equal_by : (s v : Record) (b : Bool) → has_local s ≡ b → (b ≡ false → s ≡ plain s) → HasFits v →
    contains record_cmp (cond b (alone s) (between s (Some (after_public s)))) (unmarked v) ≡ is_eq (record_cmp (cond b (unmarked v) (plain v)) s)
equal_by s v true e p f = alone_holds s (unmarked v)
equal_by s v false e p f =
    subst (λ t. contains record_cmp (between t (Some (after_public t))) (unmarked v) ≡ is_eq (record_cmp (plain v) t)) (sym (p refl))
    (between_holds (plain s) (Some (after_public (plain s))) v ∙ (λ i. from_version_holds s v i && up_to_version s v f i) ∙ both_ways (record_cmp (plain v) (plain s)))

-- a version without sentinels that has no local part
no_local : (s : Record) → s ≡ unmarked s → has_local s ≡ false → s ≡ plain s
no_local s u h = u ∙ ap (from_parts s.epoch s.release s.pre s.post s.dev) (go s.local h)
  where
    go : (l : List LocalSegmentValue) → not (length l == 0) ≡ false → l ≡ []
    go [] h = refl
    go (x ∷ l) h = absurd (true≢false (ap not (sym (eqb-suc-zero (length l))) ∙ h))

equal_holds : (s v : Record) → s ≡ unmarked s → HasFits v → contains record_cmp (equal_to s) (unmarked v) ≡ matches Equal s (unmarked v)
equal_holds s v u f = equal_by s v (has_local s) refl (no_local s u) f

equal_is_range : (s : Record) → IsRange record_cmp (equal_to s)
equal_is_range s = go (has_local s)
  where
    go : (b : Bool) → IsRange record_cmp (cond b (alone s) (between s (Some (after_public s))))
    go true = alone_is_range s
    go false = between_is_range s (Some (after_public s))

-- ---- stars

star_holds : (e : ℕ) (r : List ℕ) (v : Record) → HasFits v → contains record_cmp (prefix_set (epoch_and_release e r)) (unmarked v) ≡ matches EqualStar (epoch_and_release e r) (unmarked v)
star_holds e r v f =
    between_holds (first_dev e r) (after_release_prefix e r) v
    ∙ ap (λ b. not b && is_below_end (after_release_prefix e r) v) (below_dev e r v)
    ∙ prefix_holds e r v f.epoch f.release

star_is_range : (s : Record) → IsRange record_cmp (prefix_set s)
star_is_range s = between_is_range (first_dev s.epoch s.release) (after_release_prefix s.epoch s.release)

-- ---- all operators

taken : (o : Operator) (s s' v : Record) → s ≡ s' → For o s' v → For o s v
taken o s s' v p h = subst (λ t. For o t v) (sym p) h

each : (o : Operator) (s v : Record) → HasOperand (record { operator = o; version = s }) → s ≡ unmarked s → o ≢ ExactEqual → HasFits v → For o s v
each Equal s v p u n f = equal_holds s v u f
each NotEqual s v p u n f = gaps_hold_the_rest record_total (equal_to s) (unmarked v) (equal_is_range s) ∙ ap not (equal_holds s v u f)
each EqualStar s v p u n f = taken EqualStar s (epoch_and_release s.epoch s.release) v (p.star refl) (star_holds s.epoch s.release v f)
each NotEqualStar s v p u n f =
    taken NotEqualStar s (epoch_and_release s.epoch s.release) v (p.star refl)
    (gaps_hold_the_rest record_total (prefix_set (epoch_and_release s.epoch s.release)) (unmarked v) (star_is_range (epoch_and_release s.epoch s.release)) ∙ ap not (star_holds s.epoch s.release v f))
each TildeEqual s v p u n f = taken TildeEqual s (plain s) v (is_plain s (p.plain refl)) (between_holds (plain s) (after_release_prefix s.epoch (without_last s.release)) v ∙ tilde_holds s v f.epoch f.release)
each LessThan s v p u n f = taken LessThan s (plain s) v (is_plain s (p.plain refl)) (below_holds (below_end (plain s)) v ∙ less_holds s v)
each LessThanEqual s v p u n f = taken LessThanEqual s (plain s) v (is_plain s (p.plain refl)) (below_holds (after_public (plain s)) v ∙ up_to_version s v f)
each GreaterThan s v p u n f = taken GreaterThan s (plain s) v (is_plain s (p.plain refl)) (from_holds (above_start (plain s)) v ∙ greater_holds s v f.suffixes)
each GreaterThanEqual s v p u n f = taken GreaterThanEqual s (plain s) v (is_plain s (p.plain refl)) (from_holds (plain s) v ∙ from_version_holds s v)
each ExactEqual s v p u n f = absurd (n refl)

pub holds_matches : (s : Spec) → IsDenotable s → s.operator ≢ ExactEqual → HoldsMatches s
holds_matches s (operand, (text, derives)) n v (vtext, vderives) =
    let v_is = is_unmarked vtext v vderives in
    subst (λ w. contains record_cmp (specifier_set s.operator s.version) w ≡ matches_literally s.operator s.version w) (sym v_is)
    (each s.operator s.version v operand (is_unmarked text s.version derives) n (has_fits v (derived_record vtext v vderives)))

-- ---- each set is a range

pub set_is_range : (o : Operator) (s : Record) → IsRange record_cmp (specifier_set o s)
set_is_range Equal s = equal_is_range s
set_is_range NotEqual s = gaps_are_range record_total (equal_to s) (equal_is_range s)
set_is_range EqualStar s = star_is_range s
set_is_range NotEqualStar s = gaps_are_range record_total (prefix_set s) (star_is_range s)
set_is_range TildeEqual s = between_is_range s (after_release_prefix s.epoch (without_last s.release))
set_is_range LessThan s = below_is_range (below_end s)
set_is_range LessThanEqual s = below_is_range (after_public s)
set_is_range GreaterThan s = from_is_range (above_start s)
set_is_range GreaterThanEqual s = from_is_range s
set_is_range ExactEqual s = (refl, tt)
