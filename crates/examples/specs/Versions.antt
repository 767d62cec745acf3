-- The newest of the versions that a list contains, the versions that a range holds, and what is reported of a string: the version that it denotes, or why
-- it denotes none.
use Rattle.std.specs.Prelude.{◌≡◌, List, [], ◌∷◌, ◌++◌, false, filter, Option, Some, None, IsTrue, ℕ, string_bytes, option_map}
use Rattle.std.specs.List.{All}
use Rattle.std.specs.Ordering.{is_gt, is_lt}
use Rattle.pep440_rs.specs.Matching.{list_matches}
use Rattle.pep440_rs.specs.Specifiers.{Spec}
use Rattle.pep440_version.specs.Key.{record_cmp}
use Rattle.pep440_version.specs.Record.{Record}
use Rattle.pep440_version.specs.ErrorTexts.{rejection_text}
use Rattle.pep440_version.specs.Grammar.{Derives}
use Rattle.pep440_version.specs.Rejections.{Rejection, Rejects}
use Rattle.examples.specs.declared.untrusted.Verdict.{Verdict}
use Rattle.examples.specs.declared.untrusted.Verdict.TheVariants.{Accepted, Rejected}
use Rattle.pep440_ranges.specs.RangeSegments.{contains}
use Rattle.pep440_rs.specs.Bounds.{Segments}

-- the versions that the list contains
abbrev pub collect_matches : List Spec → List Record → List Record
collect_matches list versions = filter (list_matches list) versions

-- one of the versions: those before it are not above it, and those after it are below it; so it is the last of equal ones
pub record IsLastGreatest (versions : List Record) (v : Record) : Type 0 where
  pub before : List Record
  pub after : List Record
  pub split : versions ≡ before ++ (v ∷ after)
  pub greatest : All (λ w. is_gt (record_cmp w v) ≡ false) before
  pub above : All (λ w. IsTrue (is_lt (record_cmp w v))) after

-- the greatest of the versions, or None if there are none
abbrev pub LastGreatest : List Record → Option Record → Type 0
LastGreatest versions None = versions ≡ []
LastGreatest versions (Some v) = IsLastGreatest versions v

-- the string denotes this version, or is invalid with this message
abbrev pub IsVerdict : List ℕ → Verdict → Type 0
IsVerdict text (Accepted v) = Derives text v
IsVerdict text (Rejected reason) = (f : Rejection) × Rejects text f × (string_bytes reason ≡ rejection_text f)

-- the versions that the range holds, in order
abbrev pub versions_within : Option Segments → List Record → Option (List Record)
versions_within range versions = option_map (λ r. filter (contains record_cmp r) versions) range
