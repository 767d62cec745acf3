-- What intervals between versions hold.
use Rattle.std.proofs.Common.{◌≡◌, ◌==◌, ◌++◌, ℕ, Bool, true, false, cond, not, ◌&&◌, List, [], ◌∷◌, Option, Some, None, refl, sym, ap, ◌∙◌, arith}
use mathlib.Core.Bool.{true≢false}
use Rattle.std.proofs.lemmas.Bool.Decides.{nat_tests}
use Rattle.std.proofs.lemmas.Cmp.{tied_itself}
use Rattle.std.specs.Option.{option_map_or}
use Rattle.std.specs.Ordering.{nat_cmp, ordering_reverse, ordering_then, is_eq, is_gt, is_le, is_lt}
use Rattle.std.specs.declared.cmp.Ordering.{Ordering}
use Rattle.std.specs.declared.cmp.Ordering.TheVariants as ord
use Rattle.std.specs.declared.ops.Bound.{Bound}
use Rattle.std.specs.declared.ops.Bound.TheVariants.{Included, Excluded, Unbounded}
use Rattle.pep440_ranges.proofs.Laws.{gaps_are_range, gaps_hold_the_rest, overlaps_are_range, overlaps_hold_both}
use Rattle.pep440_ranges.specs.BoundOrder.{is_valid}
use Rattle.pep440_ranges.specs.Complement.{gaps}
use Rattle.pep440_ranges.specs.Intersection.{overlaps}
use Rattle.pep440_ranges.specs.RangeSegments.{IsRange, Segment, contains, one_segment}
use Rattle.pep440_rs.proofs.Agreement.Suffixes.{from_dev}
use Rattle.pep440_rs.proofs.Agreement.VersionOrder.{by_parts, only_start, plain, turn_le}
use Rattle.pep440_rs.proofs.PublicParts.{unmarked}
use Rattle.pep440_rs.specs.Bounds.{alone, full}
use Rattle.pep440_version.specs.Key.{base_cmp, local_cmp, record_cmp, release_cmp, suffix_cmp}
use Rattle.pep440_version.specs.Key.KeyLaws.{record_total}
use Rattle.pep440_version.specs.Record.{LocalSegmentValue, Record, from_parts}
use Rattle.pep440_version.specs.declared.prerelease.Prerelease.{Prerelease}
use Rattle.pep440_version.specs.declared.prerelease.PrereleaseKind.{PrereleaseKind}
use Rattle.pep440_version.specs.declared.prerelease.PrereleaseKind.TheVariants.{Alpha, Beta, Rc}
use Rattle.pep440_sets.proofs.AfterParts.{HasSuffixesThatFit, after_suffixes, by_next}
use Rattle.pep440_sets.specs.NextVersions.{after_dev_releases, after_kind, after_parts, after_posts, least, pre_dev}
use Rattle.pep440_sets.specs.Sets.{between, from_version_on}

-- ---- the least version

pub no_local_below : (l : List LocalSegmentValue) → is_lt (local_cmp l []) ≡ false
no_local_below [] = refl
no_local_below (x ∷ l) = refl

-- nothing is below release 0
pub never_below_zero : (rs : List ℕ) → is_lt (release_cmp rs (0 ∷ [])) ≡ false
never_below_zero [] = refl
never_below_zero (r ∷ rs) = go r (release_cmp rs []) (never rs)
  where
    go : (r : ℕ) (t : Ordering) → is_lt t ≡ false → is_lt (ordering_then (nat_cmp r 0) t) ≡ false
    go r t h = grind (arith, nat_tests)

    never : (ys : List ℕ) → is_lt (release_cmp ys []) ≡ false
    never [] = refl
    never (y ∷ ys) = go y (release_cmp ys []) (never ys)

none_below : (E R S L : Ordering) → is_lt E ≡ false → is_lt R ≡ false → is_lt S ≡ false → is_lt L ≡ false → is_lt (ordering_then (ordering_then E R) (ordering_then S L)) ≡ false
none_below ord.Less R S L e r s l = e
none_below ord.Greater R S L e r s l = refl
none_below ord.Equal ord.Less S L e r s l = r
none_below ord.Equal ord.Greater S L e r s l = refl
none_below ord.Equal ord.Equal ord.Less L e r s l = s
none_below ord.Equal ord.Equal ord.Greater L e r s l = refl
none_below ord.Equal ord.Equal ord.Equal L e r s l = l

pub not_below_least : (v : Record) → is_lt (record_cmp (unmarked v) least) ≡ false
not_below_least v =
    ap is_lt (by_parts (unmarked v) least)
    ∙ none_below (nat_cmp v.epoch 0) (release_cmp v.release (0 ∷ [])) (suffix_cmp (unmarked v) least) (local_cmp v.local []) (zero v.epoch) (never_below_zero v.release) (from_dev v.pre v.post v.dev) (no_local_below v.local)
  where
    zero : (e : ℕ) → is_lt (nat_cmp e 0) ≡ false
    zero e = grind (arith, nat_tests)

-- a version whose release begins with a number above 0 is not the least
pub above_least : (v : Record) (n : ℕ) (rest : List ℕ) → v.release ≡ n ∷ rest → (n == 0) ≡ false → is_eq (record_cmp v least) ≡ false
above_least v n rest e h =
    ap is_eq (by_parts v least)
    ∙ ap (λ r. is_eq (ordering_then (ordering_then (nat_cmp v.epoch 0) (release_cmp r (0 ∷ []))) (ordering_then (suffix_cmp v least) (local_cmp v.local [])))) e
    ∙ ap (λ o. is_eq (ordering_then (ordering_then (nat_cmp v.epoch 0) (ordering_then o (release_cmp rest []))) (ordering_then (suffix_cmp v least) (local_cmp v.local [])))) (above_zero n h)
    ∙ above (nat_cmp v.epoch 0) (ordering_then (suffix_cmp v least) (local_cmp v.local []))
  where
    above_zero : (n : ℕ) → (n == 0) ≡ false → nat_cmp n 0 ≡ ord.Greater
    above_zero n h = grind (arith, nat_tests, h)

    above : (E S : Ordering) → is_eq (ordering_then (ordering_then E ord.Greater) S) ≡ false
    above ord.Less S = refl
    above ord.Equal S = refl
    above ord.Greater S = refl

-- ---- intervals

is_equal : (o : Ordering) → is_eq o ≡ true → o ≡ ord.Equal
is_equal ord.Less h = absurd (true≢false (sym h))
is_equal ord.Equal h = refl
is_equal ord.Greater h = absurd (true≢false (sym h))

-- of two versions that are equal each other version is the same way
pub same_right : (v a b : Record) → record_cmp a b ≡ ord.Equal → record_cmp v a ≡ record_cmp v b
same_right v a b e = record_total.antisymm v a ∙ ap ordering_reverse (record_total.congr a b v e) ∙ sym (record_total.antisymm v b)

pub from_holds : (x v : Record) → contains record_cmp (from_version_on x) (unmarked v) ≡ not (is_lt (record_cmp (unmarked v) x))
from_holds x v = go (is_eq (record_cmp x least)) refl
  where
    go : (b : Bool) → is_eq (record_cmp x least) ≡ b → contains record_cmp (cond b full ((Included x, Unbounded) ∷ [])) (unmarked v) ≡ not (is_lt (record_cmp (unmarked v) x))
    go true e = ap not (sym (not_below_least v)) ∙ ap (λ o. not (is_lt o)) (sym (same_right (unmarked v) x least (is_equal _ e)))
    go false e = only_start (is_le (record_cmp x (unmarked v))) ∙ turn_le x (unmarked v)

pub from_is_range : (x : Record) → IsRange record_cmp (from_version_on x)
from_is_range x = go (is_eq (record_cmp x least))
  where
    go : (b : Bool) → IsRange record_cmp (cond b full ((Included x, Unbounded) ∷ []))
    go true = (refl, tt)
    go false = (refl, tt)

not_not : (b : Bool) → not (not b) ≡ b
not_not true = refl
not_not false = refl

pub below_holds : (x v : Record) → contains record_cmp (gaps (from_version_on x)) (unmarked v) ≡ is_lt (record_cmp (unmarked v) x)
below_holds x v = gaps_hold_the_rest record_total (from_version_on x) (unmarked v) (from_is_range x) ∙ ap not (from_holds x v) ∙ not_not (is_lt (record_cmp (unmarked v) x))

pub below_is_range : (x : Record) → IsRange record_cmp (gaps (from_version_on x))
below_is_range x = gaps_are_range record_total (from_version_on x) (from_is_range x)

-- as one segment
pub open_end : (start : Bound Record) → one_segment record_cmp start Unbounded ≡ (start, Unbounded) ∷ []
open_end Unbounded = refl
open_end (Included v) = refl
open_end (Excluded v) = refl

pub below_is : (v : Record) → gaps (from_version_on v) ≡ cond (is_eq (record_cmp v least)) [] ((Unbounded, Excluded v) ∷ [])
below_is v = go (is_eq (record_cmp v least))
  where
    go : (b : Bool) → gaps (cond b full ((Included v, Unbounded) ∷ [])) ≡ cond b [] ((Unbounded, Excluded v) ∷ [])
    go true = refl
    go false = refl

pub between_is : (v end : Record) (start : Bound Record) → from_version_on v ≡ (start, Unbounded) ∷ [] →
    between v (Some end) ≡ cond (is_eq (record_cmp end least)) [] (one_segment record_cmp start (Excluded end))
between_is v end start e = (λ i. overlaps record_cmp (e i) (below_is end i)) ∙ go (is_eq (record_cmp end least)) start
  where
    kept : (b : Bool) (s : Segment Record) → cond b (s ∷ []) [] ++ [] ≡ cond b (s ∷ []) []
    kept true s = refl
    kept false s = refl

    go : (b : Bool) (start : Bound Record) → overlaps record_cmp ((start, Unbounded) ∷ []) (cond b [] ((Unbounded, Excluded end) ∷ [])) ≡ cond b [] (one_segment record_cmp start (Excluded end))
    go true start = refl
    go false Unbounded = kept (is_valid record_cmp Unbounded (Excluded end)) (Unbounded, Excluded end)
    go false (Included x) = kept (is_valid record_cmp (Included x) (Excluded end)) (Included x, Excluded end)
    go false (Excluded x) = kept (is_valid record_cmp (Excluded x) (Excluded end)) (Excluded x, Excluded end)

and_true : (b : Bool) → b ≡ b && true
and_true true = refl
and_true false = refl

pub between_holds : (start : Record) (end : Option Record) (v : Record) →
    contains record_cmp (between start end) (unmarked v) ≡ not (is_lt (record_cmp (unmarked v) start)) && option_map_or (λ e. is_lt (record_cmp (unmarked v) e)) end true
between_holds start None v = from_holds start v ∙ and_true (not (is_lt (record_cmp (unmarked v) start)))
between_holds start (Some e) v =
    overlaps_hold_both record_total (from_version_on start) (gaps (from_version_on e)) (unmarked v) ∙ (λ i. from_holds start v i && below_holds e v i)

pub between_is_range : (start : Record) (end : Option Record) → IsRange record_cmp (between start end)
between_is_range start None = from_is_range start
between_is_range start (Some e) = overlaps_are_range record_total (from_version_on start) (gaps (from_version_on e)) (from_is_range start) (below_is_range e)

pub alone_is_range : (s : Record) → IsRange record_cmp (alone s)
alone_is_range s = (ap is_le (tied_itself record_total s), tt)

-- ---- a version after others has their epoch and release, and no local part

pub record HasBase (e : ℕ) (r : List ℕ) (x : Record) : Type 0 where
  pub epoch : x.epoch ≡ e
  pub release : x.release ≡ r
  pub local : x.local ≡ []

parts_base : (e : ℕ) (r : List ℕ) (pre : Option Prerelease) (post dev : Option ℕ) → HasBase e r (from_parts e r pre post dev [])
parts_base e r pre post dev = record { epoch = refl; release = refl; local = refl }

pub posts_base : (e : ℕ) (r : List ℕ) (pre : Option Prerelease) → HasBase e r (after_posts e r pre)
posts_base e r None = record { epoch = refl; release = refl; local = refl }
posts_base e r (Some p) = by_next (HasBase e r) p.number (pre_dev e r p.kind) (after_kind e r p.kind) (λ n h. parts_base e r _ _ _) (λ h. go p.kind)
  where
    go : (k : PrereleaseKind) → HasBase e r (after_kind e r k)
    go Alpha = parts_base e r _ _ _
    go Beta = parts_base e r _ _ _
    go Rc = parts_base e r _ _ _

devs_base : (e : ℕ) (r : List ℕ) (pre : Option Prerelease) (post : Option ℕ) → HasBase e r (after_dev_releases e r pre post)
devs_base e r None None = parts_base e r _ _ _
devs_base e r (Some p) post = parts_base e r _ _ _
devs_base e r None (Some w) = parts_base e r _ _ _

pub after_base : (e : ℕ) (r : List ℕ) (pre : Option Prerelease) (post dev : Option ℕ) → HasBase e r (after_parts e r pre post dev)
after_base e r pre post (Some d) = by_next (HasBase e r) d _ _ (λ n h. parts_base e r pre post (Some n)) (λ h. devs_base e r pre post)
after_base e r pre (Some w) None = by_next (HasBase e r) w _ _ (λ n h. parts_base e r pre (Some n) (Some 0)) (λ h. posts_base e r pre)
after_base e r pre None None = parts_base e r pre (Some 0) (Some 0)

-- ---- what is not below it is above them

after_table : (B S T L : Ordering) → is_lt L ≡ false → not (is_lt (ordering_then S ord.Equal)) ≡ is_gt (ordering_then T ord.Equal) → not (is_lt (ordering_then B (ordering_then S L))) ≡ is_gt (ordering_then B (ordering_then T ord.Equal))
after_table ord.Less S T L l h = refl
after_table ord.Greater S T L l h = refl
after_table ord.Equal ord.Less T L l h = h
after_table ord.Equal ord.Greater T L l h = h
after_table ord.Equal ord.Equal T L l h = ap not l ∙ h

pub after_holds : (s v : Record) → HasSuffixesThatFit v → not (is_lt (record_cmp (unmarked v) (after_parts s.epoch s.release s.pre s.post s.dev))) ≡ is_gt (record_cmp (plain v) (plain s))
after_holds s v f =
    let next = after_parts s.epoch s.release s.pre s.post s.dev in
    let base = after_base s.epoch s.release s.pre s.post s.dev in
    ap (λ o. not (is_lt o)) (by_parts (unmarked v) next)
    ∙ (λ i. not (is_lt (ordering_then (ordering_then (nat_cmp v.epoch (base.epoch i)) (release_cmp v.release (base.release i))) (ordering_then (suffix_cmp (unmarked v) next) (local_cmp v.local (base.local i))))))
    ∙ after_table (base_cmp (plain v) (plain s)) (suffix_cmp (plain v) next) (suffix_cmp (plain v) (plain s)) (local_cmp v.local []) (no_local_below v.local) (after_suffixes s.epoch s.release s.pre s.post s.dev v f)
    ∙ ap is_gt (sym (by_parts (plain v) (plain s)))
