-- The greatest of the values that some items have, and of equal ones the first; and the newest of some candidates: the greatest that each list contains.
use Rattle.std.specs.Prelude.{◌≡◌, ℕ, List, ◌∷◌, ◌++◌, Bool, true, IsTrue, Option, Some, None, length, ◌||◌, not}
use Rattle.std.specs.List.{All, list_all}
use Rattle.std.specs.Option.{option_map_or, option_map}
use Rattle.std.specs.Ordering.{is_le, is_lt, bool_cmp, on, then_cmp}
use Rattle.std.specs.declared.cmp.Ordering.{Ordering}
use Rattle.std.specs.Borrow.{Bor}
use Rattle.pep440_rs.specs.Matching.{any_prerelease, list_matches}
use Rattle.pep440_rs.specs.Specifiers.{Spec}
use Rattle.pep440_version.specs.Key.{record_cmp}
use Rattle.pep440_version.specs.Record.{Record}

-- the item at this position has this value; those of the items before it are below it, and none of those after it is above it
pub record IsGreatest {A K : Type 0} (Has : A → K → Type 0) (order : K → K → Ordering) (items : List A) (position : ℕ) (value : K) : Type 0 where
  pub before : List A
  pub item : A
  pub after : List A
  pub split : items ≡ before ++ (item ∷ after)
  pub at : length before ≡ position
  pub has : Has item value
  pub above : All (λ a. (k : K) → Has a k → IsTrue (is_lt (order k value))) before
  pub greatest : All (λ a. (k : K) → Has a k → IsTrue (is_le (order k value))) after

-- its position and the value; None if no item has a value
abbrev pub Greatest : {A K : Type 0} → (A → K → Type 0) → (K → K → Ordering) → List A → Option (ℕ × K) → Type 0
Greatest {A} {K} Has order items None = All (λ a. (k : K) → ¬ (Has a k)) items
Greatest {A} {K} Has order items (Some p) = IsGreatest Has order items p.0 p.1

-- the value is above the greatest, if there is one
abbrev pub is_above : {K : Type 0} → (K → K → Ordering) → Option (ℕ × K) → K → Bool
is_above {K} order greatest value = option_map_or (λ (p : ℕ × K). is_lt (order p.1 value)) greatest true

-- pre-releases lie below all final releases unless they are taken, so that one is the newest only if there is no final release (PEP 440,
-- "Handling of pre-releases"); else by version
abbrev pub preference : Bool → Record → Record → Ordering
preference takes = then_cmp (on (λ (r : Record). takes || not (any_prerelease r)) bool_cmp) record_cmp

-- each list contains the version
abbrev pub all_contain : List (List Spec) → Record → Bool
all_contain lists v = list_all (λ list. list_matches list v) lists

-- the candidate is this version, which each list contains
abbrev pub IsContained : List (List Spec) → Record → Record → Type 0
IsContained lists candidate version = (candidate ≡ version) × IsTrue (all_contain lists version)

-- the index of the newest candidate, or None if no candidate is contained
abbrev pub Newest : List (List Spec) → List Record → Option ℕ → Type 0
Newest lists candidates position = (newest : Option (ℕ × Record)) × Greatest (IsContained lists) record_cmp candidates newest × (position ≡ option_map (λ (p : ℕ × Record). p.0) newest)

-- the index and the version of a candidate that was borrowed
abbrev pub positioned : Option (ℕ × Bor Record) → Option (ℕ × Record)
positioned newest = option_map (λ (p : ℕ × Bor Record). (p.0, p.1.now)) newest
