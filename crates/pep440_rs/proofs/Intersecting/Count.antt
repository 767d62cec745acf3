-- What each conversion gives is a range, of at most one segment, and of two for an exclusion.
use Rattle.std.proofs.Common.{◌≡◌, ℕ, ◌≤◌, Bool, true, false, cond, List, [], ◌∷◌, length, Option, Some, None, refl, ap, arith}
use Rattle.std.proofs.lemmas.Cmp.{tied_itself}
use Rattle.std.specs.Ordering.{is_le}
use Rattle.std.specs.declared.ops.Bound.{Bound}
use Rattle.std.specs.declared.ops.Bound.TheVariants.{Included, Excluded, Unbounded}
use Rattle.pep440_rs.proofs.Agreement.Prefix.{mapped, some_is}
use Rattle.pep440_rs.specs.Agreement.{ConversionsAreRanges, ConversionsHaveFewSegments}
use Rattle.pep440_rs.specs.Operators.{is_exclusion}
use Rattle.pep440_rs.specs.Bounds.{Segments, range_of, release_range_of, release_up_to, alone, less, greater, compatible_end, star, star_end, next_number, raise_last, from_to}
use Rattle.pep440_rs.specs.Matching.{any_prerelease, without_last}
use Rattle.pep440_rs.specs.declared.specifier.operator.Operator.{Operator}
use Rattle.pep440_rs.specs.declared.specifier.operator.Operator.TheVariants.{Equal, EqualStar, ExactEqual, NotEqual, NotEqualStar, TildeEqual, LessThan, LessThanEqual, GreaterThan, GreaterThanEqual}
use Rattle.pep440_ranges.proofs.Laws.{one_segment_is_range, gaps_are_range, gaps_are_few}
use Rattle.pep440_ranges.specs.BoundOrder.{is_valid}
use Rattle.pep440_ranges.specs.Complement.{gaps}
use Rattle.pep440_ranges.specs.RangeSegments.{Segment, IsRange, one_segment}
use Rattle.pep440_version.specs.Key.{record_cmp}
use Rattle.pep440_version.specs.Key.KeyLaws.{record_total}
use Rattle.pep440_version.specs.Record.{Record, from_release}

-- a range of at most n segments
pub record IsRangeOf (n : ℕ) (range : Segments) : Type 0 where
  pub apart : IsRange record_cmp range
  pub few : length range ≤ n

alone_one : (s : Record) → IsRangeOf 1 (alone s)
alone_one s = record { apart = (ap is_le (tied_itself record_total s), tt); few = omega arith }

one_count : (start end : Bound Record) → length (one_segment record_cmp start end) ≤ 1
one_count start end = go (is_valid record_cmp start end)
  where
    go : (b : Bool) → length {A = Segment Record} (cond b ((start, end) ∷ []) []) ≤ 1
    go true = omega arith
    go false = omega arith

between : (start end : Record) → IsRangeOf 1 (from_to start end)
between start end = record { apart = one_segment_is_range record_total (Included start) (Excluded end); few = one_count (Included start) (Excluded end) }

others : (range : Segments) → IsRangeOf 1 range → IsRangeOf 2 (gaps range)
others range k = record { apart = gaps_are_range record_total range k.apart; few = omega (arith, gaps_are_few record_total range, k.few) }

less_one : (s : Record) → IsRangeOf 1 (less s)
less_one s = go (any_prerelease s)
  where
    go : (b : Bool) → IsRangeOf 1 (cond b ((Unbounded, Excluded s) ∷ []) ((Unbounded, Excluded (record s { min = Some 0 })) ∷ []))
    go true = record { apart = (refl, tt); few = omega arith }
    go false = record { apart = (refl, tt); few = omega arith }

greater_one : (s : Record) (dev post : Option ℕ) (range : Segments) → greater s dev post ≡ Some range → IsRangeOf 1 range
greater_one s (Some d) post range h = let m = mapped _ (next_number d) range h in rw m.2 (record { apart = (refl, tt); few = omega arith })
greater_one s None (Some p) range h = let m = mapped _ (next_number p) range h in rw m.2 (record { apart = (refl, tt); few = omega arith })
greater_one s None None range h = rw (some_is _ range h) (record { apart = (refl, tt); few = omega arith })

star_one : (s : Record) (range : Segments) → star s ≡ Some range → IsRangeOf 1 range
star_one s range h = let m = mapped _ (star_end s s.post s.pre) range h in rw m.2 (between (record s { dev = Some 0 }) m.0)

release_one : (release numbers : List ℕ) (range : Segments) → release_up_to release numbers ≡ Some range → IsRangeOf 1 range
release_one release numbers range h = let m = mapped _ (raise_last numbers) range h in rw m.2 (between (from_release release) (from_release m.0))

abbrev limit : Operator → ℕ
limit NotEqual = 2
limit NotEqualStar = 2
limit _ = 1

whole : (op : Operator) (s : Record) (range : Segments) → range_of op s ≡ Some range → IsRangeOf (limit op) range
whole Equal s range h = rw (some_is _ range h) (alone_one s)
whole ExactEqual s range h = rw (some_is _ range h) (alone_one s)
whole NotEqual s range h = rw (some_is _ range h) (others (alone s) (alone_one s))
whole GreaterThanEqual s range h = rw (some_is _ range h) (record { apart = (refl, tt); few = omega arith })
whole LessThanEqual s range h = rw (some_is _ range h) (record { apart = (refl, tt); few = omega arith })
whole TildeEqual s range h = let m = mapped _ (compatible_end s) range h in rw m.2 (between s m.0)
whole LessThan s range h = rw (some_is _ range h) (less_one s)
whole GreaterThan s range h = greater_one s s.dev s.post range h
whole EqualStar s range h = star_one s range h
whole NotEqualStar s range h = let m = mapped gaps (star s) range h in rw m.2 (others m.0 (star_one s m.0 m.1))

by_release : (op : Operator) (s : Record) (range : Segments) → release_range_of op s ≡ Some range → IsRangeOf (limit op) range
by_release Equal s range h = rw (some_is _ range h) (alone_one (from_release s.release))
by_release ExactEqual s range h = rw (some_is _ range h) (alone_one (from_release s.release))
by_release NotEqual s range h = rw (some_is _ range h) (others (alone (from_release s.release)) (alone_one (from_release s.release)))
by_release GreaterThanEqual s range h = rw (some_is _ range h) (record { apart = (refl, tt); few = omega arith })
by_release LessThanEqual s range h = rw (some_is _ range h) (record { apart = (refl, tt); few = omega arith })
by_release TildeEqual s range h = release_one s.release (without_last s.release) range h
by_release LessThan s range h = rw (some_is _ range h) (record { apart = (refl, tt); few = omega arith })
by_release GreaterThan s range h = rw (some_is _ range h) (record { apart = (refl, tt); few = omega arith })
by_release EqualStar s range h = release_one s.release s.release range h
by_release NotEqualStar s range h =
    let m = mapped gaps (release_up_to s.release s.release) range h in rw m.2 (others m.0 (release_one s.release s.release m.0 m.1))

limit_is : (op : Operator) (s : Record) (range : Segments) → IsRangeOf (limit op) range → length range ≤ cond (is_exclusion op) 2 1
limit_is Equal s range k = k.few
limit_is ExactEqual s range k = k.few
limit_is NotEqual s range k = k.few
limit_is GreaterThanEqual s range k = k.few
limit_is LessThanEqual s range k = k.few
limit_is TildeEqual s range k = k.few
limit_is LessThan s range k = k.few
limit_is GreaterThan s range k = k.few
limit_is EqualStar s range k = k.few
limit_is NotEqualStar s range k = k.few

pub gives_ranges : ConversionsAreRanges range_of
gives_ranges op s range h = (whole op s range h).apart

pub gives_few : ConversionsHaveFewSegments range_of
gives_few op s range h = limit_is op s range (whole op s range h)

pub gives_release_ranges : ConversionsAreRanges release_range_of
gives_release_ranges op s range h = (by_release op s range h).apart

pub gives_few_by_release : ConversionsHaveFewSegments release_range_of
gives_few_by_release op s range h = limit_is op s range (by_release op s range h)
