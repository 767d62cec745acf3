-- A clone of each stored value is that same value.
use Rattle.std.specs.Prelude.{◌≡◌, ◌⊎◌, List, [], ◌∷◌}
use Rattle.std.specs.declared.ops.Bound.{Bound}
use Rattle.std.specs.declared.ops.Bound.TheVariants.{Included, Excluded, Unbounded}
use Rattle.pep440_ranges.specs.RangeSegments.{Segment}

module _ {V : Type 0} where
  -- x is the value of the bound
  abbrev pub IsValueOf : Bound V → V → Type 0
  IsValueOf (Included y) x = y ≡ x
  IsValueOf (Excluded y) x = y ≡ x
  IsValueOf Unbounded x = ⊥

  -- x is the value of a bound of some segment
  abbrev pub IsBoundValue : List (Segment V) → V → Type 0
  IsBoundValue [] x = ⊥
  IsBoundValue (s ∷ ss) x = IsValueOf s.0 x ⊎ IsValueOf s.1 x ⊎ IsBoundValue ss x

module _ {V : Type 0} (is_clone : V → V → Type 0) where
  -- a clone of x is x
  abbrev pub IsCloneSame : V → Type 0
  IsCloneSame x = (copy : V) → is_clone x copy → copy ≡ x

  -- a clone of each stored value is that same value
  abbrev pub ClonesBoundValues : List (Segment V) → Type 0
  ClonesBoundValues ss = (x : V) → IsBoundValue ss x → IsCloneSame x

  -- a clone of the value of the bound, if it has one, is that same value
  abbrev pub ClonesBound : Bound V → Type 0
  ClonesBound (Included x) = IsCloneSame x
  ClonesBound (Excluded x) = IsCloneSame x
  ClonesBound Unbounded = Unit {0}

  -- a clone of the value of each bound is that same value, bound after bound, as a loop over the segments meets them
  abbrev pub ClonesEach : List (Segment V) → Type 0
  ClonesEach [] = Unit {0}
  ClonesEach (s ∷ ss) = ClonesBound s.0 × ClonesBound s.1 × ClonesEach ss

-- where a clone is always the same value, so is a clone of each stored value: of every range at once
pub clones_bound_values : {V : Type 0} (is_clone : V → V → Type 0) → ((x : V) → IsCloneSame is_clone x) → (ss : List (Segment V)) → ClonesBoundValues is_clone ss
clones_bound_values is_clone same ss x held = same x
