-- The bytes of a compiled list: its members, one after the other, and before them its set, if it has one. A sort key ends where it
-- says, and no member begins with the byte 1 of the zeros after a key, so nothing stands between two members.
use Rattle.std.specs.Prelude.{◌≡◌, ◌⊎◌, ◌&&◌, ℕ, ◌+◌, List, ◌∷◌, ◌++◌, Some, Bool, false, true, is_none, length, not, slice_get}
use Rattle.std.specs.List.{All, flat_map, list_all}
use Rattle.pep440_compiled.specs.SetBytes.{IsSized, set_bytes, sized_bytes}
use Rattle.pep440_compiled.specs.Version.{version_bytes}
use Rattle.pep440_sets.specs.Sets.{has_exact, list_set}
use Rattle.pep440_version.specs.Record.{Fits, Record}
use Rattle.pep440_version.specs.RoundTrip.{IsParsed}
use Rattle.pep440_rs.specs.Arrangement.{IsArranged}
use Rattle.pep440_rs.specs.Matching.{has_local}
use Rattle.pep440_rs.specs.Operators.{operator_rank}
use Rattle.pep440_rs.specs.declared.specifier.operator.Operator.{Operator}
use Rattle.pep440_rs.specs.declared.specifier.operator.Operator.TheVariants.{Equal, EqualStar, ExactEqual, NotEqual, NotEqualStar}
use Rattle.pep440_rs.specs.Specifiers.{IsSpec, Spec}

-- 16 and the position of the operator in its enum, and the version
abbrev pub member_bytes : Spec → List ℕ
member_bytes s = (16 + operator_rank s.operator) ∷ version_bytes s.version

-- ---- the members alone

-- the bytes begin with the format byte 5
abbrev pub HasMembersFormat : List ℕ → Type 0
HasMembersFormat bytes = slice_get bytes 0 ≡ Some 5

-- the format byte 5, and the members
abbrev pub members_bytes : List Spec → List ℕ
members_bytes list = 5 ∷ flat_map member_bytes list

-- the specifiers whose versions strings parse to
pub record IsParsedMember (s : Spec) : Type 0 where
  pub valid : IsSpec s
  pub version : IsParsed s.version

-- the bytes are the members of this list, whose versions never fall
pub record DenotesMembers (bytes : List ℕ) (list : List Spec) : Type 0 where
  pub members : All IsParsedMember list
  pub order : IsArranged list
  pub same : bytes ≡ members_bytes list

-- ---- with the set

-- just an epoch and a release
abbrev pub is_bare : Record → Bool
is_bare v = is_none v.pre && (is_none v.post && (is_none v.dev && not (has_local v)))

-- a string can have the version beside the operator: beside a star just an epoch and a release, and a local part only beside `==`, `!=`
-- and `===`
abbrev pub may_stand : Operator → Record → Bool
may_stand EqualStar v = is_bare v
may_stand NotEqualStar v = is_bare v
may_stand Equal v = true
may_stand NotEqual v = true
may_stand ExactEqual v = true
may_stand _ v = not (has_local v)

-- each member is one that a string can denote, and none has `===`
abbrev pub has_set : List Spec → Bool
has_set list = not (has_exact list) && list_all (λ (s : Spec). may_stand s.operator s.version) list

-- the bytes begin with the format byte 6
abbrev pub HasSetFormat : List ℕ → Type 0
HasSetFormat bytes = slice_get bytes 0 ≡ Some 6

-- the format byte 6, how many bytes the set has, the set, and the members with their format byte
abbrev pub with_set_bytes : List Spec → List ℕ
with_set_bytes list = 6 ∷ sized_bytes (set_bytes (list_set list)) ++ members_bytes list

-- the bytes are the set and the members of this list
pub record DenotesWithSet (bytes : List ℕ) (list : List Spec) : Type 0 where
  pub members : DenotesMembers (members_bytes list) list
  pub given : has_set list ≡ true
  pub sizes : All IsSized (list_set list)
  pub size : Fits (length (set_bytes (list_set list)))
  pub same : bytes ≡ with_set_bytes list

-- ---- either

-- the bytes begin with the format byte 5 or 6, which those of older formats do not
abbrev pub HasListFormat : List ℕ → Type 0
HasListFormat bytes = HasMembersFormat bytes ⊎ HasSetFormat bytes

-- the bytes are those of this list, with its set or without
abbrev pub DenotesList : List ℕ → List Spec → Type 0
DenotesList bytes list = DenotesMembers bytes list ⊎ DenotesWithSet bytes list

-- with the set, or without it
abbrev pub IsFormBy : Bool → List ℕ → List Spec → Type 0
IsFormBy true bytes list = DenotesWithSet bytes list
IsFormBy false bytes list = DenotesMembers bytes list

-- the bytes are what the list compiles to: with its set, if it has one
abbrev pub IsListForm : List ℕ → List Spec → Type 0
IsListForm bytes list = IsFormBy (has_set list) bytes list
