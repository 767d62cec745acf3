use Rattle.std.proofs.Common.{◌≡◌, List, Result, Ok, Err}
use Rattle.std.specs.List.{All}
use Rattle.std.specs.Prelude.{IfOk}
use Rattle.pep440_rs.proofs.Within.ListMembers.{contains_within, contains_only_within}
use Rattle.pep440_rs.specs.Arrangement.{Arranges}
use Rattle.pep440_rs.specs.BoundsAgreement.{IsReleasePair, IsOrdered, KnowsGaps, HoldsWithin, HoldsOnlyWithin}
use Rattle.pep440_rs.specs.Members.{list_members}
use Rattle.pep440_rs.specs.Specifiers.{Spec}
use Rattle.pep440_ranges.specs.RangeSegments.{Segment}
use Rattle.pep440_version.specs.Record.{Record}
use Rattle.pep440_rs.proofs.list.VersionSpecifiers.from_release_only_bounds.Goals as goal

-- the list of the pairs' members holds what lies within the pairs
holds : {E : Type 0} (pairs : List (Segment Record)) → All IsReleasePair pairs → (members : List Spec) → members ≡ list_members pairs → (r : Result (List Spec) E) →
    IfOk r (λ list. Arranges members list) → IfOk r (λ list. IsOrdered pairs → HoldsWithin pairs list)
holds pairs given members made (Ok list) arranged = λ ordered. contains_within pairs list ordered given (rw made at arranged.same)
holds pairs given members made (Err e) arranged = tt

-- and no other release, where each gap is known
holds_only : {E : Type 0} (pairs : List (Segment Record)) → All IsReleasePair pairs → (members : List Spec) → members ≡ list_members pairs → (r : Result (List Spec) E) →
    IfOk r (λ list. Arranges members list) → IfOk r (λ list. IsOrdered pairs → KnowsGaps pairs → HoldsOnlyWithin pairs list)
holds_only pairs given members made (Ok list) arranged = λ ordered known. contains_only_within pairs list ordered given known (rw made at arranged.same)
holds_only pairs given members made (Err e) arranged = tt

pub returns-clause-within : goal.returns-clause-within
returns-clause-within c = holds c.args.pairs.now c.requires _ c.in_ok-convert_pairs.ensures c.from_specifiers.result c.from_specifiers.ensures.value

pub returns-clause-only : goal.returns-clause-only
returns-clause-only c = holds_only c.args.pairs.now c.requires _ c.in_ok-convert_pairs.ensures c.from_specifiers.result c.from_specifiers.ensures.value
