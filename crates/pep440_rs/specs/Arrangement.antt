-- How the members of a list are arranged: by version, equal ones in the order given.
use Rattle.std.specs.Prelude.{List}
use Rattle.std.specs.List.Sorted.{IsPermutation, IsSorted, IsStable}
use Rattle.std.specs.Ordering.{on}
use Rattle.std.specs.declared.cmp.Ordering.{Ordering}
use Rattle.pep440_version.specs.Key.{record_cmp}
use Rattle.pep440_rs.specs.Specifiers.{Spec}

-- by version alone
abbrev pub version_cmp : Spec → Spec → Ordering
version_cmp = on (λ (s : Spec). s.version) record_cmp

-- no member's version is below that of the one before it
abbrev pub IsArranged : List Spec → Type 0
IsArranged list = IsSorted version_cmp list

-- the list is the arrangement of the given items by this order: none is lost or made, the order never falls, and equal items
-- keep their order
pub record ArrangesBy {A : Type 0} (cmp : A → A → Ordering) (given list : List A) : Type 0 where
  pub same : IsPermutation given list
  pub rises : IsSorted cmp list
  pub stable : IsStable cmp given list

-- the list is the arrangement of the members by version
abbrev pub Arranges : List Spec → List Spec → Type 0
Arranges = ArrangesBy version_cmp
