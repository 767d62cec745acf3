-- When the members made of bounds contain exactly the releases within the bounds.
use Rattle.std.specs.Prelude.{◌≡◌, ◌==◌, Bool, not, ◌||◌, IsTrue, List, [], ◌∷◌, length}
use Rattle.std.specs.declared.ops.Bound.{Bound}
use Rattle.std.specs.declared.ops.Bound.TheVariants.{Included, Excluded, Unbounded}
use Rattle.pep440_rs.specs.Agreement.{IsReleaseOnly}
use Rattle.pep440_rs.specs.Matching.{list_matches}
use Rattle.pep440_rs.specs.Specifiers.{Spec}
use Rattle.pep440_rs.specs.Members.{gap_members}
use Rattle.pep440_ranges.specs.BoundOrder.{is_valid, flipped_bound}
use Rattle.pep440_ranges.specs.RangeSegments.{Segment, lies_in, contains}
use Rattle.pep440_version.specs.Key.{record_cmp}
use Rattle.pep440_version.specs.Record.{Record}

-- ---- what is presupposed of the bounds

-- the bound's version is a release alone
abbrev pub IsReleaseBound : Bound Record → Type 0
IsReleaseBound (Included v) = IsReleaseOnly v
IsReleaseBound (Excluded v) = IsReleaseOnly v
IsReleaseBound Unbounded = Unit {0}

-- both bounds of the pair are releases alone
abbrev pub IsReleasePair : Segment Record → Type 0
IsReleasePair p = IsReleaseBound p.0 × IsReleaseBound p.1

-- nothing lies in both of two neighbouring pairs: the end is below the next start, or equal to it and not both are included
abbrev pub is_followed : Bound Record → Bound Record → Bool
is_followed end start = not (is_valid record_cmp start end)

-- there is a pair, each pair is a valid segment, and each is followed by the next
abbrev pub IsOrdered : List (Segment Record) → Type 0
IsOrdered [] = ⊥
IsOrdered (p ∷ []) = IsTrue (is_valid record_cmp p.0 p.1)
IsOrdered (p ∷ q ∷ pairs) = IsTrue (is_valid record_cmp p.0 p.1) × IsTrue (is_followed p.1 q.0) × IsOrdered (q ∷ pairs)

-- the gap between an end and the next start is empty, or some member excludes it
abbrev pub is_known_gap : Bound Record → Bound Record → Bool
is_known_gap end start = not (is_valid record_cmp (flipped_bound end) (flipped_bound start)) || not (length (gap_members end start) == 0)

-- each gap of the list is such a gap
abbrev pub KnowsGaps : List (Segment Record) → Type 0
KnowsGaps (p ∷ q ∷ pairs) = IsTrue (is_known_gap p.1 q.0) × KnowsGaps (q ∷ pairs)
KnowsGaps pairs = Unit {0}

-- ---- the statements

-- the members together contain exactly the releases within the pair
abbrev pub MatchesWithin : Segment Record → List Spec → Type 0
MatchesWithin p members = (v : Record) → IsReleaseOnly v → list_matches members v ≡ lies_in record_cmp p v

-- the members together contain every release within the pairs
abbrev pub HoldsWithin : List (Segment Record) → List Spec → Type 0
HoldsWithin pairs members = (v : Record) → IsReleaseOnly v → IsTrue (contains record_cmp pairs v) → IsTrue (list_matches members v)

-- the members together contain no other release
abbrev pub HoldsOnlyWithin : List (Segment Record) → List Spec → Type 0
HoldsOnlyWithin pairs members = (v : Record) → IsReleaseOnly v → list_matches members v ≡ contains record_cmp pairs v
