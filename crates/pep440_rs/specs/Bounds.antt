-- The ranges of specifiers: for each operator the segments between bounds made of the specifier's version,
-- or None where a number that has to be raised is the greatest there is. There are two conversions: by the
-- whole order of versions, and by releases alone.
use Rattle.std.specs.Prelude.{ℕ, ◌+◌, ◌==◌, List, [], ◌∷◌, Option, Some, None, option_map, option_and_then, if◌then◌else◌}
use Rattle.std.specs.declared.ops.Bound.TheVariants.{Included, Excluded, Unbounded}
use Rattle.pep440_rs.specs.Matching.{without_last, any_prerelease}
use Rattle.pep440_rs.specs.Specifiers.{Spec}
use Rattle.pep440_rs.specs.declared.specifier.operator.Operator.{Operator}
use Rattle.pep440_rs.specs.declared.specifier.operator.Operator.TheVariants.{Equal, EqualStar, ExactEqual, NotEqual, NotEqualStar, TildeEqual, LessThan, LessThanEqual, GreaterThan, GreaterThanEqual}
use Rattle.pep440_ranges.specs.Complement.{gaps}
use Rattle.pep440_ranges.specs.Intersection.{overlaps}
use Rattle.pep440_ranges.specs.RangeSegments.{Segment, one_segment}
use Rattle.pep440_version.specs.Key.{record_cmp}
use Rattle.pep440_version.specs.Record.{Record, from_release, epoch_and_release}
use Rattle.pep440_version.specs.declared.prerelease.Prerelease.{Prerelease}

-- the segments of a range of versions
abbrev pub Segments : Type 0
Segments = List (Segment Record)

-- ---- numbers raised

-- the number plus 1, or None for the greatest number
abbrev pub next_number : ℕ → Option ℕ
next_number n = if n == 18446744073709551615 then None else Some (n + 1)

-- the release with 1 added to its last number, unless that is the greatest
abbrev pub raise_last : List ℕ → Option (List ℕ)
raise_last [] = None
raise_last (x ∷ []) = option_map (λ n. n ∷ []) (next_number x)
raise_last (x ∷ y ∷ ys) = option_map (λ rest. x ∷ rest) (raise_last (y ∷ ys))

-- ---- one segment

-- the version alone
abbrev pub alone : Record → Segments
alone s = (Included s, Included s) ∷ []

-- from one version up to another, which is excluded; no segment if the first is not below the second
abbrev pub from_to : Record → Record → Segments
from_to start end = one_segment record_cmp (Included start) (Excluded end)

-- ---- by either conversion

-- the range of an operator and a version, given those of `<`, `>`, `~=` and a star
abbrev pub range_by : Segments → Option Segments → Option Segments → Option Segments → Operator → Record → Option Segments
range_by less greater compatible star Equal s = Some (alone s)
range_by less greater compatible star ExactEqual s = Some (alone s)
range_by less greater compatible star NotEqual s = Some (gaps (alone s))
range_by less greater compatible star GreaterThanEqual s = Some ((Included s, Unbounded) ∷ [])
range_by less greater compatible star LessThanEqual s = Some ((Unbounded, Included s) ∷ [])
range_by less greater compatible star TildeEqual s = compatible
range_by less greater compatible star LessThan s = Some less
range_by less greater compatible star GreaterThan s = greater
range_by less greater compatible star EqualStar s = star
range_by less greater compatible star NotEqualStar s = option_map gaps star

-- ---- by the whole order

-- `<`: below s if s is a pre- or dev release, else below the sentinel min, which is below every version of the release
abbrev pub less : Record → Segments
less s = if any_prerelease s then (Unbounded, Excluded s) ∷ [] else (Unbounded, Excluded (record s { min = Some 0 })) ∷ []

-- `>`, by the dev and post of s: from the next dev release on; or from the first dev release of the next post-release on; or
-- above the sentinel max, which is above all post-releases
abbrev pub greater : Record → Option ℕ → Option ℕ → Option Segments
greater s (Some dev) post = option_map (λ n. (Included (record s { dev = Some n }), Unbounded) ∷ []) (next_number dev)
greater s None (Some post) = option_map (λ n. (Included (record s { post = Some n; dev = Some 0 }), Unbounded) ∷ []) (next_number post)
greater s None None = Some ((Excluded (record s { max = Some 0 }), Unbounded) ∷ [])

-- the end of `~=`: the first dev release of the next release that is one number shorter
abbrev pub compatible_end : Record → Option Record
compatible_end s = option_map (λ release. record (epoch_and_release s.epoch release) { dev = Some 0 }) (raise_last (without_last s.release))

-- the end of a star, by the post and pre of s: the first dev release of the next version that does not begin with s
abbrev pub star_end : Record → Option ℕ → Option Prerelease → Option Record
star_end s (Some post) pre = option_map (λ n. record s { post = Some n; dev = Some 0 }) (next_number post)
star_end s None (Some p) = option_map (λ n. record s { pre = Some (record p { number = n }); dev = Some 0 }) (next_number p.number)
star_end s None None = option_map (λ release. record s { release = release; dev = Some 0 }) (raise_last s.release)

-- the range of a star: from the first dev release of s up to that end
abbrev pub star : Record → Option Segments
star s = option_map (λ end. from_to (record s { dev = Some 0 }) end) (star_end s s.post s.pre)

-- the range of a specifier
abbrev pub range_of : Operator → Record → Option Segments
range_of op s = range_by (less s) (greater s s.dev s.post) (option_map (λ end. from_to s end) (compatible_end s)) (star s) op s

-- ---- by releases alone

-- from the release up to the one whose last of these numbers is raised, which is excluded
abbrev pub release_up_to : List ℕ → List ℕ → Option Segments
release_up_to release numbers = option_map (λ next. from_to (from_release release) (from_release next)) (raise_last numbers)

-- the release-only range of a specifier, which depends on its release alone
abbrev pub release_range_of : Operator → Record → Option Segments
release_range_of op s = let only = from_release s.release in
    range_by ((Unbounded, Excluded only) ∷ []) (Some ((Excluded only, Unbounded) ∷ [])) (release_up_to s.release (without_last s.release)) (release_up_to s.release s.release) op only

-- ---- lists, by either conversion

-- the whole line
abbrev pub full : Segments
full = (Unbounded, Unbounded) ∷ []

module _ (range_of : Operator → Record → Option Segments) where
  -- a range intersected with that of each member in order; None if some member has no range
  abbrev pub range_from : Segments → List Spec → Option Segments
  range_from range [] = Some range
  range_from range (m ∷ members) = option_and_then (λ r. range_from (overlaps record_cmp range r) members) (range_of m.operator m.version)

  -- the range of a list: the whole line intersected with the range of each member
  abbrev pub list_range : List Spec → Option Segments
  list_range members = range_from full members
