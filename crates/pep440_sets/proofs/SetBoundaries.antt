-- The set of each specifier, and what complement and intersection make of sets, has the boundaries of sets.
use Rattle.std.proofs.Common.{◌≡◌, ◌==◌, ℕ, Bool, true, false, cond, not, List, [], ◌∷◌, ◌++◌, Option, Some, None, inl, inr, is_some, length, refl, sym, ap, ◌∙◌, subst, arith}
use mathlib.Core.Bool.{true≢false}
use Rattle.std.proofs.lemmas.List.Elements.{All-from_recursion, recursion_from_All}
use Rattle.std.specs.List.{AllByRecursion}
use Rattle.std.specs.Ordering.{is_eq, is_lt, ordering_reverse, ordering_then}
use Rattle.std.specs.declared.cmp.Ordering.{Ordering}
use Rattle.std.specs.declared.cmp.Ordering.TheVariants as ord
use Rattle.std.specs.declared.ops.Bound.{Bound}
use Rattle.std.specs.declared.ops.Bound.TheVariants.{Included, Excluded, Unbounded}
use Rattle.pep440_ranges.proofs.Laws.{gaps_are_range, overlaps_are_range}
use Rattle.pep440_ranges.specs.BoundOrder.{ends_before, flipped_bound, starts_before}
use Rattle.pep440_ranges.specs.Complement.{gap_after, gap_before, gaps, gaps_after}
use Rattle.pep440_ranges.specs.Intersection.{is_valid_segment, overlap, overlaps, overlaps_with}
use Rattle.pep440_ranges.specs.RangeSegments.{Segment}
use Rattle.pep440_rs.proofs.Agreement.Prefix.{some_is}
use Rattle.pep440_rs.proofs.Agreement.VersionOrder.{by_parts, is_plain, plain}
use Rattle.pep440_rs.proofs.PublicParts.{unmarked}
use Rattle.pep440_rs.specs.Agreement.{HasOperand}
use Rattle.pep440_rs.specs.Bounds.{Segments, alone, full}
use Rattle.pep440_rs.specs.Denoted.{IsDenotable, IsDenoted}
use Rattle.pep440_rs.specs.Matching.{any_prerelease, has_local, without_last}
use Rattle.pep440_rs.specs.Specifiers.{Spec}
use Rattle.pep440_rs.specs.declared.specifier.operator.Operator.{Operator}
use Rattle.pep440_rs.specs.declared.specifier.operator.Operator.TheVariants.{Equal, EqualStar, ExactEqual, NotEqual, NotEqualStar, TildeEqual, LessThan, LessThanEqual, GreaterThan, GreaterThanEqual}
use Rattle.pep440_version.proofs.RoundTrip.PrintIsRead.{derived_record, derived_rereads}
use Rattle.pep440_version.specs.Key.{base_cmp, local_cmp, record_cmp, suffix_cmp}
use Rattle.pep440_version.specs.Key.KeyLaws.{record_total}
use Rattle.pep440_version.specs.Record.{Fits, IsRecord, LocalSegmentValue, Record}
use Rattle.pep440_sets.proofs.Intervals.{alone_is_range, from_is_range, not_below_least}
use Rattle.pep440_sets.proofs.Parsed.{HasParts, IsPlace, after_place, parts_parsed, posts_place, prefix_parsed}
use Rattle.pep440_sets.specs.Boundaries.{IsBelowVersion, IsEnd, IsInterval, IsStart, IsVersionSet}
use Rattle.pep440_version.specs.RoundTrip.{IsParsed}
use Rattle.pep440_sets.specs.NextVersions.{after_posts, after_release_prefix, after_public, first_dev, least}
use Rattle.pep440_sets.specs.Sets.{above_start, below_end, between, equal_to, from_version_on, specifier_set, prefix_set}

-- ---- complement and intersection

-- what holds of each start and of each end of sets
module _ (Start End : Bound Record → Type 0) where
  abbrev Each : Segments → Type 0
  Each set = AllByRecursion (λ (s : Segment Record). Start s.0 × End s.1) set

  each_append : (a b : Segments) → Each a → Each b → Each (a ++ b)
  each_append [] b h k = k
  each_append (x ∷ a) b h k = (h.0, each_append a b h.1 k)

  -- also of none, and of one that is turned, holds of those of the complement
  module _ (no_start : Start Unbounded) (no_end : End Unbounded) (turn_start : (b : Bound Record) → Start b → End (flipped_bound b)) (turn_end : (b : Bound Record) → End b → Start (flipped_bound b)) where
    before_each : (start : Bound Record) → Start start → Each (gap_before start)
    before_each Unbounded h = tt
    before_each (Included v) h = ((no_start, turn_start (Included v) h), tt)
    before_each (Excluded v) h = ((no_start, turn_start (Excluded v) h), tt)

    after_each : (end : Bound Record) → End end → Each (gap_after end)
    after_each Unbounded h = tt
    after_each (Included v) h = ((turn_end (Included v) h, no_end), tt)
    after_each (Excluded v) h = ((turn_end (Excluded v) h, no_end), tt)

    rest_each : (end : Bound Record) (set : Segments) → End end → Each set → Each (gaps_after end set)
    rest_each end [] h k = after_each end h
    rest_each end (s ∷ set) h k = ((turn_end end h, turn_start s.0 k.0.0), rest_each s.1 set k.0.1 k.1)

    pub each_gap : (set : Segments) → Each set → Each (gaps set)
    each_gap [] h = ((no_start, no_end), tt)
    each_gap (s ∷ set) h = each_append (gap_before s.0) (gaps_after s.1 set) (before_each s.0 h.0.0) (rest_each s.1 set h.0.1 h.1)

  -- and of those of what two sets share
  one_of : (P : Bound Record → Type 0) (b : Bool) (x y : Bound Record) → P x → P y → P (cond b x y)
  one_of P true x y h k = h
  one_of P false x y h k = k

  kept_each : (b : Bool) (s : Segment Record) (rest : Segments) → Start s.0 × End s.1 → Each rest → Each (cond b (s ∷ rest) rest)
  kept_each true s rest h k = (h, k)
  kept_each false s rest h k = k

  with_each : (s : Segment Record) (ts : Segments) → Start s.0 × End s.1 → Each ts → Each (overlaps_with record_cmp s ts)
  with_each s [] h k = tt
  with_each s (t ∷ ts) h k =
      kept_each (is_valid_segment record_cmp (overlap record_cmp s t)) (overlap record_cmp s t) (overlaps_with record_cmp s ts)
      (one_of Start (starts_before record_cmp s.0 t.0) t.0 s.0 k.0.0 h.0, one_of End (ends_before record_cmp t.1 s.1) t.1 s.1 k.0.1 h.1) (with_each s ts h k.1)

  pub each_overlap : (ss ts : Segments) → Each ss → Each ts → Each (overlaps record_cmp ss ts)
  each_overlap [] ts h k = tt
  each_overlap (s ∷ ss) ts h k = each_append (overlaps_with record_cmp s ts) (overlaps record_cmp ss ts) (with_each s ts h.0 k) (each_overlap ss ts h.1 k)

turned_start : (start : Bound Record) → IsStart start → IsEnd (flipped_bound start)
turned_start Unbounded h = tt
turned_start (Included v) h = h
turned_start (Excluded v) h = h

turned_end : (end : Bound Record) → IsEnd end → IsStart (flipped_bound end)
turned_end Unbounded h = tt
turned_end (Included v) h = h
turned_end (Excluded v) h = h

pub gaps_set : (set : Segments) → IsVersionSet set → IsVersionSet (gaps set)
gaps_set set h = record { apart = gaps_are_range record_total set h.apart; intervals = All-from_recursion IsInterval (gaps set) (each_gap IsStart IsEnd tt tt turned_start turned_end set (recursion_from_All IsInterval set h.intervals)) }

pub overlaps_set : (a b : Segments) → IsVersionSet a → IsVersionSet b → IsVersionSet (overlaps record_cmp a b)
overlaps_set a b h k = record {
  apart = overlaps_are_range record_total a b h.apart k.apart;
  intervals = All-from_recursion IsInterval (overlaps record_cmp a b) (each_overlap IsStart IsEnd a b (recursion_from_All IsInterval a h.intervals) (recursion_from_All IsInterval b k.intervals));
}

-- ---- intervals between versions

pub full_set : IsVersionSet full
full_set = record { apart = (refl, tt); intervals = All-from_recursion IsInterval full ((tt, tt), tt) }

-- what is neither below another nor equal to it is above it
above_other : (v : Record) → is_eq (record_cmp v least) ≡ false → is_lt (record_cmp v least) ≡ false → is_lt (record_cmp least v) ≡ true
above_other v e l = go (record_cmp v least) refl e l
  where
    go : (o : Ordering) → record_cmp v least ≡ o → is_eq o ≡ false → is_lt o ≡ false → is_lt (record_cmp least v) ≡ true
    go ord.Less h e l = absurd (true≢false l)
    go ord.Equal h e l = absurd (true≢false e)
    go ord.Greater h e l = ap is_lt (record_total.antisymm least v ∙ ap ordering_reverse h)

pub parsed_unmarked : (v : Record) → IsParsed v → v ≡ unmarked v
parsed_unmarked v h i = record v { min = h.round_trips.no_min i; max = h.round_trips.no_max i }

place_below : (v : Record) → IsPlace v → is_eq (record_cmp v least) ≡ false → IsBelowVersion v
place_below v (inr top) e = inr top
place_below v (inl parsed) e = inl (record { parsed = parsed; above = above_other v e (ap (λ w. is_lt (record_cmp w least)) (parsed_unmarked v parsed) ∙ not_below_least v) })

pub from_set : (v : Record) → IsPlace v → IsVersionSet (from_version_on v)
from_set v place = record { apart = from_is_range v; intervals = All-from_recursion IsInterval (from_version_on v) (go (is_eq (record_cmp v least)) refl) }
  where
    go : (b : Bool) → is_eq (record_cmp v least) ≡ b → AllByRecursion IsInterval (cond b full ((Included v, Unbounded) ∷ []))
    go true e = ((tt, tt), tt)
    go false e = ((place_below v place e, tt), tt)

pub between_set : (start : Record) (end : Option Record) → IsPlace start → ((e : Record) → end ≡ Some e → IsPlace e) → IsVersionSet (between start end)
between_set start None h k = from_set start h
between_set start (Some e) h k = overlaps_set (from_version_on start) (gaps (from_version_on e)) (from_set start h) (gaps_set (from_version_on e) (from_set e (k e refl)))

-- ---- operators

parts_of : (s : Record) → IsRecord s → HasParts s.epoch s.release
parts_of s h = record { epoch = h.epoch; some = h.some; release = h.release }

after_public_place : (s : Record) → IsRecord s → IsPlace (after_public s)
after_public_place s h = after_place s.epoch s.release s.pre s.post s.dev (parts_of s h) h.pre h.post h.dev

alone_set : (s : Record) → IsParsed s → has_local s ≡ true → is_eq (record_cmp s least) ≡ false → IsVersionSet (alone s)
alone_set s p l e = record { apart = alone_is_range s; intervals = All-from_recursion IsInterval (alone s) ((place_below s (inl p) e, record { parsed = p; local = l }), tt) }

-- a version with a local part is not the least
local_above : (s : Record) → has_local s ≡ true → is_eq (record_cmp s least) ≡ false
local_above s h = ap is_eq (by_parts s least) ∙ table (base_cmp s least) (suffix_cmp s least) (local_cmp s.local []) (longer s.local h)
  where
    longer : (l : List LocalSegmentValue) → not (length l == 0) ≡ true → is_eq (local_cmp l []) ≡ false
    longer [] h = absurd (true≢false (sym h))
    longer (x ∷ l) h = refl

    table : (B S L : Ordering) → is_eq L ≡ false → is_eq (ordering_then B (ordering_then S L)) ≡ false
    table ord.Less S L h = refl
    table ord.Greater S L h = refl
    table ord.Equal ord.Less L h = refl
    table ord.Equal ord.Greater L h = refl
    table ord.Equal ord.Equal L h = h

equal_set : (s : Record) → IsParsed s → IsVersionSet (equal_to s)
equal_set s p = go (has_local s) refl
  where
    go : (b : Bool) → has_local s ≡ b → IsVersionSet (cond b (alone s) (between s (Some (after_public s))))
    go true e = alone_set s p e (local_above s e)
    go false e = between_set s (Some (after_public s)) (inl p) (λ n h. subst IsPlace (sym (some_is (after_public s) n h)) (after_public_place s p.valid))

dev_place : (s : Record) → IsRecord s → IsPlace (first_dev s.epoch s.release)
dev_place s h = inl (parts_parsed s.epoch s.release None None (Some 0) (parts_of s h) tt tt (grind arith))

star_set : (s : Record) → IsRecord s → IsVersionSet (prefix_set s)
star_set s h = between_set (first_dev s.epoch s.release) (after_release_prefix s.epoch s.release) (dev_place s h) (λ n e. inl (prefix_parsed s.epoch s.release n h.epoch h.release e))

shorter : (r : List ℕ) → AllByRecursion Fits r → AllByRecursion Fits (without_last r)
shorter [] h = tt
shorter (x ∷ []) h = tt
shorter (x ∷ y ∷ r) h = (h.0, shorter (y ∷ r) h.1)

tilde_set : (s : Record) → IsParsed s → IsVersionSet (between s (after_release_prefix s.epoch (without_last s.release)))
tilde_set s p =
    between_set s (after_release_prefix s.epoch (without_last s.release)) (inl p)
    (λ n e. inl (prefix_parsed s.epoch (without_last s.release) n p.valid.epoch (All-from_recursion Fits (without_last s.release) (shorter s.release (recursion_from_All Fits s.release p.valid.release))) e))

less_set : (s : Record) → IsParsed s → s ≡ plain s → IsVersionSet (gaps (from_version_on (below_end s)))
less_set s p e = gaps_set (from_version_on (below_end s)) (from_set (below_end s) (go (any_prerelease s) (is_some s.post)))
  where
    dev_of_post : IsPlace (record s { dev = Some 0 })
    dev_of_post = inl (record {
      valid = record {
        epoch = p.valid.epoch;
        some = p.valid.some;
        release = p.valid.release;
        pre = p.valid.pre;
        post = p.valid.post;
        dev = grind arith;
        local = p.valid.local;
        min = p.valid.min;
        max = p.valid.max;
      };
      round_trips = record { no_min = p.round_trips.no_min; no_max = p.round_trips.no_max; local = p.round_trips.local };
    })

    go : (a b : Bool) → IsPlace (cond a s (cond b (record s { dev = Some 0 }) (first_dev s.epoch s.release)))
    go true b = inl p
    go false true = dev_of_post
    go false false = dev_place s p.valid

greater_set : (s : Record) → IsParsed s → IsVersionSet (from_version_on (above_start s))
greater_set s p = from_set (above_start s) (go (is_some s.post) (is_some s.dev))
  where
    go : (a b : Bool) → IsPlace (cond a (after_public s) (cond b (after_public s) (after_posts s.epoch s.release s.pre)))
    go true b = after_public_place s p.valid
    go false true = after_public_place s p.valid
    go false false = posts_place s.epoch s.release s.pre (parts_of s p.valid) p.valid.pre

each_set : (o : Operator) (s : Record) → IsParsed s → HasOperand (record { operator = o; version = s }) → IsVersionSet (specifier_set o s)
each_set Equal s p h = equal_set s p
each_set NotEqual s p h = gaps_set (equal_to s) (equal_set s p)
each_set EqualStar s p h = star_set s p.valid
each_set NotEqualStar s p h = gaps_set (prefix_set s) (star_set s p.valid)
each_set TildeEqual s p h = tilde_set s p
each_set LessThan s p h = less_set s p (is_plain s (h.plain refl))
each_set LessThanEqual s p h = gaps_set (from_version_on (after_public s)) (from_set (after_public s) (after_public_place s p.valid))
each_set GreaterThan s p h = greater_set s p
each_set GreaterThanEqual s p h = from_set s (inl p)
each_set ExactEqual s p h = full_set

pub denoted_parsed : (v : Record) → IsDenoted v → IsParsed v
denoted_parsed v (text, h) = record { valid = derived_record text v h; round_trips = derived_rereads text v h }

pub set_of_set : (s : Spec) → IsDenotable s → IsVersionSet (specifier_set s.operator s.version)
set_of_set s (operand, denoted) = each_set s.operator s.version (denoted_parsed s.version denoted) operand
