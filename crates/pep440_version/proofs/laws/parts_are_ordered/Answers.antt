use Rattle.pep440_version.proofs.Ordering.Comparisons.{kind_cmp-derived, prerelease_cmp-derived, segment_cmp-derived}
use Rattle.pep440_version.proofs.laws.parts_are_ordered.Goals as goal

pub returns-clause-kind : goal.returns-clause-kind
returns-clause-kind c = kind_cmp-derived

pub returns-clause-prerelease : goal.returns-clause-prerelease
returns-clause-prerelease c = prerelease_cmp-derived

pub returns-clause-segment : goal.returns-clause-segment
returns-clause-segment c = segment_cmp-derived
