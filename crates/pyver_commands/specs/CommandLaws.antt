-- What holds of a version that `bump` makes: it is greater, and only stated parts differ; and of the outcomes of `range`: 'no version' is printed exactly where there is none.
use Rattle.std.specs.Prelude.{◌≡◌, ◌+◌, ◌≤◌, ℕ, List, [], ◌∷◌, Bool, true, false, Option, None, Ok, get_or, length, nat_le, IsTrue, codes}
use Rattle.std.specs.List.{list_any, All}
use Rattle.std.specs.declared.cmp.Ordering.TheVariants.{Greater}
use Rattle.pep440_version.specs.Key.{record_cmp}
use Rattle.pep440_version.specs.Record.{Record, epoch_and_release}
use Rattle.pyver_commands.specs.Bumps.{bump, release_with}
use Rattle.pyver_commands.specs.declared.bump.BumpPart.{BumpPart}
use Rattle.pyver_commands.specs.declared.bump.BumpPart.TheVariants as part
use Rattle.pep440_rs.specs.Denoted.{IsDenoted}
use Rattle.pep440_rs.specs.Lists.ListGrammar.{DerivesList}
use Rattle.pep440_rs.specs.LiteralMatching.{list_matches_literally}
use Rattle.pep440_rs.specs.Specifiers.{Spec}
use Rattle.pyver_commands.specs.CommonRanges.{FindsCommon}
use Rattle.cli_io.specs.Runs.{Outcome}

-- the part may change the number of the release at the index
abbrev pub changes_number : ℕ → BumpPart → Bool
changes_number i (part.Release index) = nat_le index i
changes_number i _ = false

abbrev pub changes_release : BumpPart → Bool
changes_release (part.Release index) = true
changes_release _ = false

-- the part may change the pre-release
abbrev pub changes_pre : BumpPart → Bool
changes_pre part.Post = false
changes_pre part.Dev = false
changes_pre _ = true

-- the part may change the post-release
abbrev pub changes_post : BumpPart → Bool
changes_post part.Dev = false
changes_post _ = true

-- what stays where no part changes it; the dev part may change with each, and there is no local part
pub record ChangesOnly (parts : List BumpPart) (v r : Record) : Type 0 where
  pub epoch : r.epoch ≡ v.epoch
  pub numbers : (i : ℕ) → list_any (changes_number i) parts ≡ false → get_or r.release i 0 ≡ get_or v.release i 0
  pub release : list_any changes_release parts ≡ false → r.release ≡ v.release
  pub count : length v.release ≤ length r.release
  pub pre : list_any changes_pre parts ≡ false → r.pre ≡ v.pre
  pub post : list_any changes_post parts ≡ false → r.post ≡ v.post
  pub local : r.local ≡ []

-- the version is greater than the one that was raised
abbrev pub BumpsAreGreater : Type 0
BumpsAreGreater = (to : Option ℕ) (parts : List BumpPart) (v r : Record) → bump to parts v ≡ Ok r → record_cmp r v ≡ Greater

-- it differs from it only in the stated parts
abbrev pub BumpsChangeOnly : Type 0
BumpsChangeOnly = (to : Option ℕ) (parts : List BumpPart) (v r : Record) → bump to parts v ≡ Ok r → ChangesOnly parts v r

-- a number of the release that is not the greatest is raised by one
abbrev pub ReleasesAreBumped : Type 0
ReleasesAreBumped = (index : ℕ) (v : Record) → ¬ (get_or v.release index 0 ≡ 18446744073709551615)
    → bump None (part.Release index ∷ []) v ≡ Ok (epoch_and_release v.epoch (release_with index (get_or v.release index 0 + 1) v.release))

-- the word is a list that contains the version
abbrev pub AllowsVersion : Record → List ℕ → Type 0
AllowsVersion v word = (list : List Spec) × DerivesList word list × IsTrue (list_matches_literally list v)

-- where the status is 1, no version is contained in all lists
abbrev pub NoVersionIsCommon : Type 0
NoVersionIsCommon = (json : Bool) (words : List (List ℕ)) (o : Outcome) → FindsCommon json words o → o.status ≡ 1
    → (v : Record) → IsDenoted v → ¬ All (AllowsVersion v) words

-- where the status is 0, some version is contained in all lists
abbrev pub VersionIsCommon : Type 0
VersionIsCommon = (json : Bool) (words : List (List ℕ)) (o : Outcome) → FindsCommon json words o → o.status ≡ 0
    → (v : Record) × All (AllowsVersion v) words

-- where `no version` is printed, the status is 1
abbrev pub NoVersionHasItsStatus : Type 0
NoVersionHasItsStatus = (json : Bool) (words : List (List ℕ)) (o : Outcome) → FindsCommon json words o → o.output ≡ codes "no version\n" → o.status ≡ 1
