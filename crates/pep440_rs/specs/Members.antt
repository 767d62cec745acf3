-- Specifiers from bounds on releases: those that together contain the releases within the bounds. Of two
-- releases a.b and a.c, with c one more than b, `==a.b.*` contains what lies from the first to below the second.
use Rattle.std.specs.Prelude.{ℕ, ◌+◌, ◌==◌, Bool, false, ◌&&◌, List, [], ◌∷◌, ◌++◌, Option, Some, None, Result, Ok, Err, option_to_list, if◌then◌else◌}
use Rattle.std.specs.Ordering.{is_eq}
use Rattle.std.specs.declared.ops.Bound.{Bound}
use Rattle.std.specs.declared.ops.Bound.TheVariants.{Included, Excluded, Unbounded}
use Rattle.pep440_rs.specs.Build.{BuildRejection, OperatorLocalCombo}
use Rattle.pep440_rs.specs.Matching.{has_local}
use Rattle.pep440_rs.specs.Specifiers.{Spec}
use Rattle.pep440_rs.specs.declared.specifier.operator.Operator.{Operator}
use Rattle.pep440_rs.specs.declared.specifier.operator.Operator.TheVariants.{Equal, EqualStar, NotEqual, NotEqualStar, LessThan, LessThanEqual, GreaterThan, GreaterThanEqual}
use Rattle.pep440_ranges.specs.RangeSegments.{Segment}
use Rattle.pep440_version.specs.Key.{record_cmp}
use Rattle.pep440_version.specs.Record.{Record}

-- two releases of two numbers with the same first number, the second number of the second being one more
abbrev pub is_next : List ℕ → List ℕ → Bool
is_next (a ∷ b ∷ []) (d ∷ c ∷ []) = (d == a) && (c == b + 1)
is_next _ _ = false

-- ---- of one bound

-- the specifier of an operator and a version
abbrev pub spec : Operator → Record → Spec
spec o v = record { operator = o; version = v }

-- the member of a lower bound: `>=`, `>`, or none if unbounded
abbrev pub lower_member : Bound Record → Option Spec
lower_member (Included v) = Some (spec GreaterThanEqual v)
lower_member (Excluded v) = Some (spec GreaterThan v)
lower_member Unbounded = None

-- the member of an upper bound: `<=`, `<`, or none if unbounded
abbrev pub upper_member : Bound Record → Option Spec
upper_member (Included v) = Some (spec LessThanEqual v)
upper_member (Excluded v) = Some (spec LessThan v)
upper_member Unbounded = None

-- a member is rejected, with operator and version, if its version has a local part
abbrev pub without_locals : Option Spec → Result (Option Spec) BuildRejection
without_locals None = Ok None
without_locals (Some m) = if has_local m.version then Err (OperatorLocalCombo m.operator m.version) else Ok (Some m)

-- ---- of a pair of bounds

-- the member of the lower bound, then that of the upper
abbrev pub outer_members : Bound Record → Bound Record → List Spec
outer_members start end = option_to_list (lower_member start) ++ option_to_list (upper_member end)

-- the members of a pair; one member where one suffices
abbrev pub pair_members : Bound Record → Bound Record → List Spec
pair_members (Included v) (Included w) = if is_eq (record_cmp v w) then spec Equal v ∷ [] else outer_members (Included v) (Included w)
pair_members (Included v) (Excluded w) = if is_next v.release w.release then spec EqualStar v ∷ [] else outer_members (Included v) (Excluded w)
pair_members start end = outer_members start end

-- ---- of a list of pairs

-- the member that excludes the gap between an end and the next start, if there is one
abbrev pub gap_members : Bound Record → Bound Record → List Spec
gap_members (Excluded v) (Excluded w) = if is_eq (record_cmp v w) then spec NotEqual v ∷ [] else []
gap_members (Excluded v) (Included w) = if is_next v.release w.release then spec NotEqualStar v ∷ [] else []
gap_members end start = []

-- the members of all gaps, from this end on
abbrev pub gaps_members : Bound Record → List (Segment Record) → List Spec
gaps_members end [] = []
gaps_members end (p ∷ pairs) = gap_members end p.0 ++ gaps_members p.1 pairs

-- the end of the last pair
abbrev pub last_end : Bound Record → List (Segment Record) → Bound Record
last_end end [] = end
last_end end (p ∷ pairs) = last_end p.1 pairs

-- the members of the gaps, of the first start and of the last end, before they are arranged
abbrev pub list_members : List (Segment Record) → List Spec
list_members [] = []
list_members (p ∷ pairs) = gaps_members p.1 pairs ++ pair_members p.0 (last_end p.1 pairs)
