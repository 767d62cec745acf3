-- The set of a specifier, as the intervals of the order of versions that it matches by the literal rule. `===` has none, since it compares
-- spellings.
use Rattle.std.specs.Prelude.{◌≡◌, Bool, List, [], ◌∷◌, Option, Some, false, fold, if◌then◌else◌, is_some, map, true}
use Rattle.std.specs.List.{list_any}
use Rattle.std.specs.Option.{option_map_or}
use Rattle.std.specs.Ordering.{is_eq}
use Rattle.std.specs.declared.ops.Bound.TheVariants.{Included, Unbounded}
use Rattle.pep440_ranges.specs.Complement.{gaps}
use Rattle.pep440_ranges.specs.Intersection.{overlaps}
use Rattle.pep440_ranges.specs.RangeSegments.{contains}
use Rattle.pep440_rs.specs.Bounds.{Segments, alone, full}
use Rattle.pep440_rs.specs.Denoted.{IsDenoted}
use Rattle.pep440_rs.specs.Matching.{any_prerelease, has_local, without_last}
use Rattle.pep440_rs.specs.Specifiers.{Spec}
use Rattle.pep440_rs.specs.declared.specifier.operator.Operator.{Operator}
use Rattle.pep440_rs.specs.declared.specifier.operator.Operator.TheVariants.{Equal, EqualStar, ExactEqual, NotEqual, NotEqualStar, TildeEqual, LessThan, LessThanEqual, GreaterThan, GreaterThanEqual}
use Rattle.pep440_version.specs.Key.{record_cmp}
use Rattle.pep440_version.specs.Record.{Record}
use Rattle.pep440_rs.specs.LiteralMatching.{list_matches_literally, matches_literally}
use Rattle.pep440_sets.specs.NextVersions.{after_posts, after_release_prefix, after_public, first_dev, least}

-- ---- intervals

-- from a version on; all versions, where it is the least of all
abbrev pub from_version_on : Record → Segments
from_version_on v = if is_eq (record_cmp v least) then full else (Included v, Unbounded) ∷ []

-- from one version on and below another; without an end all from the first on
abbrev pub between : Record → Option Record → Segments
between start end = option_map_or (λ e. overlaps record_cmp (from_version_on start) (gaps (from_version_on e))) end (from_version_on start)

-- ---- by operator

-- `==`: the version alone where it has a local part, and otherwise with its local versions
abbrev pub equal_to : Record → Segments
equal_to s = if has_local s then alone s else between s (Some (after_public s))

-- a star: the versions of the epoch whose release begins with that of s
abbrev pub prefix_set : Record → Segments
prefix_set s = between (first_dev s.epoch s.release) (after_release_prefix s.epoch s.release)

-- where `<` ends: at s, or, where s is no pre-release, at its first dev release: of its release, or of its post-release
abbrev pub below_end : Record → Record
below_end s = if any_prerelease s then s else (if is_some s.post then record s { dev = Some 0 } else first_dev s.epoch s.release)

-- where `>` begins: after s, or, where s is neither post-release nor dev release, after its post-releases
abbrev pub above_start : Record → Record
above_start s = if is_some s.post then after_public s else (if is_some s.dev then after_public s else after_posts s.epoch s.release s.pre)

-- the set of a specifier
abbrev pub specifier_set : Operator → Record → Segments
specifier_set Equal s = equal_to s
specifier_set NotEqual s = gaps (equal_to s)
specifier_set EqualStar s = prefix_set s
specifier_set NotEqualStar s = gaps (prefix_set s)
specifier_set TildeEqual s = between s (after_release_prefix s.epoch (without_last s.release))
specifier_set LessThan s = gaps (from_version_on (below_end s))
specifier_set LessThanEqual s = gaps (from_version_on (after_public s))
specifier_set GreaterThan s = from_version_on (above_start s)
specifier_set GreaterThanEqual s = from_version_on s
specifier_set ExactEqual s = full

-- ---- lists

-- the operator is `===`
abbrev pub is_exact : Operator → Bool
is_exact ExactEqual = true
is_exact _ = false

-- the list has a member with `===`
abbrev pub has_exact : List Spec → Bool
has_exact members = list_any (λ m. is_exact m.operator) members

-- the set of a list: the intersection of the sets of its members
abbrev pub list_set : List Spec → Segments
list_set members = fold (overlaps record_cmp) full (map (λ (m : Spec). specifier_set m.operator m.version) members)

-- ---- what a set holds

-- the set holds, of the versions that strings denote, exactly those that match
abbrev pub HoldsMatches : Spec → Type 0
HoldsMatches s = (v : Record) → IsDenoted v → contains record_cmp (specifier_set s.operator s.version) v ≡ matches_literally s.operator s.version v

abbrev pub HoldsListMatches : List Spec → Segments → Type 0
HoldsListMatches members set = (v : Record) → IsDenoted v → contains record_cmp set v ≡ list_matches_literally members v
