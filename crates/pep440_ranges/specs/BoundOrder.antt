-- Bounds over an order: what lies on their side, and how two of them compare.
-- A start and an end that are unbounded lie below and above all values.
use Rattle.std.specs.Prelude.{Bool, true, false}
use Rattle.std.specs.declared.cmp.Ordering.{Ordering}
use Rattle.std.specs.Ordering.{is_lt, is_le}
use Rattle.std.specs.declared.ops.Bound.{Bound}
use Rattle.std.specs.declared.ops.Bound.TheVariants.{Included, Excluded, Unbounded}

-- a bound turned from included to excluded and back
abbrev pub flipped_bound : {V : Type 0} → Bound V → Bound V
flipped_bound (Included x) = Excluded x
flipped_bound (Excluded x) = Included x
flipped_bound Unbounded = Unbounded

module _ {V : Type 0} (cmp : V → V → Ordering) where
  -- the value is not before the start
  abbrev pub is_from_start : Bound V → V → Bool
  is_from_start (Included x) v = is_le (cmp x v)
  is_from_start (Excluded x) v = is_lt (cmp x v)
  is_from_start Unbounded v = true

  -- the value is not after the end
  abbrev pub is_up_to_end : Bound V → V → Bool
  is_up_to_end (Included x) v = is_le (cmp v x)
  is_up_to_end (Excluded x) v = is_lt (cmp v x)
  is_up_to_end Unbounded v = true

  -- a start and an end that enclose something: one is unbounded, the start is below the end, or both are included and equal
  abbrev pub is_valid : Bound V → Bound V → Bool
  is_valid Unbounded end = true
  is_valid (Included x) Unbounded = true
  is_valid (Excluded x) Unbounded = true
  is_valid (Included x) (Included y) = is_le (cmp x y)
  is_valid (Included x) (Excluded y) = is_lt (cmp x y)
  is_valid (Excluded x) (Included y) = is_lt (cmp x y)
  is_valid (Excluded x) (Excluded y) = is_lt (cmp x y)

  -- an end and the next start do not touch: the end is below the start, or both are excluded and equal
  abbrev pub is_apart : Bound V → Bound V → Bool
  is_apart Unbounded start = false
  is_apart (Included x) Unbounded = false
  is_apart (Excluded x) Unbounded = false
  is_apart (Included x) (Included y) = is_lt (cmp x y)
  is_apart (Included x) (Excluded y) = is_lt (cmp x y)
  is_apart (Excluded x) (Included y) = is_lt (cmp x y)
  is_apart (Excluded x) (Excluded y) = is_le (cmp x y)

  -- the start a is before the start b; of equal values an included start is before an excluded one
  abbrev pub starts_before : Bound V → Bound V → Bool
  starts_before a Unbounded = false
  starts_before Unbounded (Included y) = true
  starts_before Unbounded (Excluded y) = true
  starts_before (Included x) (Included y) = is_lt (cmp x y)
  starts_before (Included x) (Excluded y) = is_le (cmp x y)
  starts_before (Excluded x) (Included y) = is_lt (cmp x y)
  starts_before (Excluded x) (Excluded y) = is_lt (cmp x y)

  -- the end a is before the end b; of equal values an excluded end is before an included one
  abbrev pub ends_before : Bound V → Bound V → Bool
  ends_before Unbounded b = false
  ends_before (Included x) Unbounded = true
  ends_before (Excluded x) Unbounded = true
  ends_before (Included x) (Included y) = is_lt (cmp x y)
  ends_before (Included x) (Excluded y) = is_lt (cmp x y)
  ends_before (Excluded x) (Included y) = is_le (cmp x y)
  ends_before (Excluded x) (Excluded y) = is_lt (cmp x y)
