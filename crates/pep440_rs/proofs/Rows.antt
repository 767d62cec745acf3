-- Worked rows of ranges, matching and members made of bounds, by computation; `pep440_rs_tests` has more.
use Rattle.std.proofs.Common.{◌≡◌, true, false, [], ◌∷◌, Some, Err, ℕ, refl}
use Rattle.std.specs.Fmt.{digits}
use Rattle.std.specs.declared.ops.Bound.TheVariants.{Included, Excluded, Unbounded}
use Rattle.pep440_rs.specs.Bounds.{range_of, release_range_of, list_range}
use Rattle.pep440_rs.specs.Build.{OperatorLocalCombo}
use Rattle.pep440_rs.specs.Matching.{matches, list_matches}
use Rattle.pep440_rs.specs.Members.{spec, lower_member, without_locals, pair_members, list_members}
use Rattle.pep440_rs.specs.declared.specifier.operator.Operator.TheVariants.{EqualStar, ExactEqual, NotEqual, NotEqualStar, TildeEqual, LessThan, LessThanEqual, GreaterThan, GreaterThanEqual}
use Rattle.pep440_version.specs.Record.{Record, Text, from_release}
use Rattle.pep440_version.specs.declared.prerelease.PrereleaseKind.TheVariants.{Alpha}

abbrev two : ℕ → ℕ → Record
two a b = from_release (a ∷ b ∷ [])

-- `1.0`
abbrev v : Record
v = two 1 0

abbrev post : ℕ → Record → Record
post n r = record r { post = Some n }

abbrev dev : ℕ → Record → Record
dev n r = record r { dev = Some n }

-- with the local part `x`
abbrev local : Record → Record
local r = record r { local = Text (120 ∷ []) ∷ [] }

-- the range of `~=1.2.3` is `[1.2.3, 1.3.dev0)`
compatible_range : range_of TildeEqual (from_release (1 ∷ 2 ∷ 3 ∷ [])) ≡ Some ((Included (from_release (1 ∷ 2 ∷ 3 ∷ [])), Excluded (dev 0 (two 1 3))) ∷ [])
compatible_range = refl

-- the range of `>1.0` is `(1.0~max0, *)`
greater_range : range_of GreaterThan v ≡ Some ((Excluded (record v { max = Some 0 }), Unbounded) ∷ [])
greater_range = refl

-- the release-only range of `>1.0.post1` is `(1.0, *)`
release_range : release_range_of GreaterThan (post 1 v) ≡ Some ((Excluded v, Unbounded) ∷ [])
release_range = refl

-- the range of the list `>=1.0, !=1.5, <2.0` is `[1.0, 1.5)` and `(1.5, 2.0~min0)`
range_of_list : list_range range_of (spec GreaterThanEqual v ∷ spec NotEqual (two 1 5) ∷ spec LessThan (two 2 0) ∷ [])
    ≡ Some ((Included v, Excluded (two 1 5)) ∷ (Excluded (two 1 5), Excluded (record (two 2 0) { min = Some 0 })) ∷ [])
range_of_list = refl

-- `==1.0.*` contains `1`
padded : matches EqualStar v (from_release (1 ∷ [])) ≡ true
padded = refl

-- `<1.0` doesn't contain `1.0a1`
early : matches LessThan v (record v { pre = Some (record { kind = Alpha; number = 1 }) }) ≡ false
early = refl

-- `>1.0` doesn't contain `1.0.post1`
late : matches GreaterThan v (post 1 v) ≡ false
late = refl

-- `===1.0` doesn't contain `1.0.0`
exact : matches ExactEqual v (from_release (1 ∷ 0 ∷ 0 ∷ [])) ≡ false
unfolding digits
exact = refl

-- the list `>=1.16, <2.0` contains `1.19`
contained : list_matches (spec GreaterThanEqual (two 1 16) ∷ spec LessThan (two 2 0) ∷ []) (two 1 19) ≡ true
contained = refl

-- from `1.0+x` on is refused
local_bound : without_locals (lower_member (Included (local v))) ≡ Err (OperatorLocalCombo GreaterThanEqual (local v))
local_bound = refl

-- from `3.7` to `3.8`, excluded, is `==3.7.*`
pair : pair_members (Included (two 3 7)) (Excluded (two 3 8)) ≡ spec EqualStar (two 3 7) ∷ []
pair = refl

-- [3.7, 3.8), [3.9, 4]; the members stand as made, not yet arranged
members : list_members ((Included (two 3 7), Excluded (two 3 8)) ∷ (Included (two 3 9), Included (from_release (4 ∷ []))) ∷ [])
    ≡ spec NotEqualStar (two 3 8) ∷ spec GreaterThanEqual (two 3 7) ∷ spec LessThanEqual (from_release (4 ∷ [])) ∷ []
members = refl
