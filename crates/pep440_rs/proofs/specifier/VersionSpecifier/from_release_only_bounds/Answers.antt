use Rattle.std.proofs.Common.{◌≡◌, ◌∙◌, ap, List, Result, Ok, Err}
use Rattle.std.specs.Prelude.{IfOk}
use Rattle.pep440_rs.proofs.Within.PairMembers.{pair_agrees}
use Rattle.pep440_rs.specs.BoundsAgreement.{IsReleasePair, MatchesWithin}
use Rattle.pep440_rs.specs.Matching.{list_matches}
use Rattle.pep440_rs.specs.Members.{pair_members}
use Rattle.pep440_rs.specs.Specifiers.{Spec}
use Rattle.pep440_ranges.specs.RangeSegments.{Segment}
use Rattle.pep440_version.specs.Record.{Record}
use Rattle.pep440_rs.proofs.specifier.VersionSpecifier.from_release_only_bounds.Goals as goal

-- the members of a pair contain what lies within it
agreed : {E : Type 0} (p : Segment Record) → IsReleasePair p → (r : Result (List Spec) E) → IfOk r (λ m. m ≡ pair_members p.0 p.1) → IfOk r (λ m. MatchesWithin p m)
agreed p given (Ok m) made = λ v only. ap (λ l. list_matches l v) made ∙ pair_agrees p given v only
agreed p given (Err e) made = tt

pub returns-clause-agrees : goal.returns-clause-agrees
returns-clause-agrees c = agreed (c.args.bounds.0.now, c.args.bounds.1.now) (c.requires.start, c.requires.end) c.convert_pair.result c.convert_pair.ensures
