-- When the range of a specifier holds exactly the versions that the specifier contains (PEP 440, "Version
-- specifiers"), and which inclusion holds where it doesn't.
use Rattle.std.specs.Prelude.{◌≡◌, ◌≢◌, ◌↔◌, ◌+◌, ◌≤◌, false, not, ◌||◌, List, [], Option, Some, None, is_some, IsTrue, count_by, length, if◌then◌else◌}
use Rattle.std.specs.List.{All, Any, list_all}
use Rattle.std.specs.Option.{option_map_or}
use Rattle.pep440_rs.specs.Bounds.{Segments, list_range}
use Rattle.pep440_rs.specs.Matching.{matches, list_matches, same_release, any_prerelease}
use Rattle.pep440_rs.specs.Operators.{allows_local, is_exclusion, is_star}
use Rattle.pep440_rs.specs.Specifiers.{Spec}
use Rattle.pep440_rs.specs.declared.specifier.operator.Operator.{Operator}
use Rattle.pep440_rs.specs.declared.specifier.operator.Operator.TheVariants.{ExactEqual, LessThan, GreaterThan}
use Rattle.pep440_ranges.specs.RangeSegments.{contains, IsRange}
use Rattle.pep440_version.specs.Key.{record_cmp}
use Rattle.pep440_version.specs.Record.{Record, from_release, epoch_and_release}

-- ---- what is presupposed of the versions

-- a version without local part and sentinels
pub record HasNoLocalOrSentinel (v : Record) : Type 0 where
  pub local : v.local ≡ []
  pub min : v.min ≡ None
  pub max : v.max ≡ None

-- a string can have this version beside the operator: beside a star only epoch and release, and a local part only beside `==`,
-- `!=` and `===`
pub record HasOperand (s : Spec) : Type 0 where
  pub star : IsTrue (is_star s.operator) → s.version ≡ epoch_and_release s.version.epoch s.version.release
  pub plain : IsTrue (not (allows_local s.operator)) → HasNoLocalOrSentinel s.version

-- range and matching do not differ by suffixes. For `<`: the versions differ in epoch or release, or s is no post-release, or s
-- has pre or dev. For `>`: they differ so, or v is no post-release, or s is one or has neither pre nor dev
abbrev pub IsSuffixComparable : Operator → Record → Record → Type 0
IsSuffixComparable LessThan s v = IsTrue (not (same_release s v) || not (is_some s.post) || any_prerelease s)
IsSuffixComparable GreaterThan s v = IsTrue (not (same_release s v) || not (is_some v.post) || (is_some s.post || not (any_prerelease s)))
IsSuffixComparable _ s v = Unit {0}

-- the premises under which range and matching of the specifier agree at v
pub record IsCandidate (s : Spec) (v : Record) : Type 0 where
  pub operator : s.operator ≢ ExactEqual
  pub plain : HasNoLocalOrSentinel v
  pub suffixes : IsSuffixComparable s.operator s.version v

-- a release with epoch 0 and nothing else
abbrev pub IsReleaseOnly : Record → Type 0
IsReleaseOnly v = v ≡ from_release v.release

-- specifier and candidate are releases alone, and the operator is not `===`
pub record IsReleaseComparable (s : Spec) (v : Record) : Type 0 where
  pub operator : s.operator ≢ ExactEqual
  pub operand : IsReleaseOnly s.version
  pub candidate : IsReleaseOnly v

-- ---- the agreement, of the versions that can be compared: of candidates for a specifier whose version a string can give,
-- and of releases for the release-only range

module _ (IsComparable : Spec → Record → Type 0) where
  -- the range holds exactly what the specifier contains
  abbrev pub Agrees : Spec → Segments → Type 0
  Agrees s range = (v : Record) → IsComparable s v → contains record_cmp range v ≡ matches s.operator s.version v

  -- the range holds exactly what the list contains, where each member agrees at the version
  abbrev pub ListAgrees : List Spec → Segments → Type 0
  ListAgrees members range = (v : Record) → All (λ m. IsComparable m v) members → contains record_cmp range v ≡ list_matches members v

-- ---- the whole order, of a specifier whose version a string can give

-- whatever the suffixes, the range of `<` holds only what matches
abbrev pub HoldsOnlyMatches : Spec → Segments → Type 0
HoldsOnlyMatches s range = s.operator ≡ LessThan → (v : Record) → HasNoLocalOrSentinel v → IsTrue (contains record_cmp range v) → IsTrue (matches s.operator s.version v)

-- whatever the suffixes, the range of `>` holds all that matches
abbrev pub HoldsAllMatches : Spec → Segments → Type 0
HoldsAllMatches s range = s.operator ≡ GreaterThan → (v : Record) → HasNoLocalOrSentinel v → IsTrue (matches s.operator s.version v) → IsTrue (contains record_cmp range v)

-- ---- lists, by either conversion

-- the range of a list has at most one segment more than the list has exclusions
abbrev pub HasFewSegments : List Spec → Segments → Type 0
HasFewSegments members range = length range ≤ 1 + count_by (λ m. is_exclusion m.operator) members

module _ (conversion : Operator → Record → Option Segments) where
  -- the segments are valid, and each is apart from the next
  abbrev pub ConversionsAreRanges : Type 0
  ConversionsAreRanges = (op : Operator) (s : Record) (range : Segments) → conversion op s ≡ Some range → IsRange record_cmp range

  -- one segment at most; of an exclusion two at most
  abbrev pub ConversionsHaveFewSegments : Type 0
  ConversionsHaveFewSegments = (op : Operator) (s : Record) (range : Segments) → conversion op s ≡ Some range → length range ≤ (if is_exclusion op then 2 else 1)

  -- a version lies in the range of the list exactly if it lies in the range of each member; no member fails
  abbrev pub HoldsInEach : List Spec → Segments → Type 0
  HoldsInEach members range = (v : Record) → contains record_cmp range v ≡ list_all (λ m. option_map_or (λ r. contains record_cmp r v) (conversion m.operator m.version) false) members

  -- the conversion of a list fails exactly if that of some member does
  abbrev pub FailsByAMember : List Spec → Type 0
  FailsByAMember members = (list_range conversion members ≡ None) ↔ Any (λ m. conversion m.operator m.version ≡ None) members
