use Rattle.pep440_rs.proofs.Intersecting.Count.{gives_ranges, gives_few, gives_release_ranges, gives_few_by_release}
use Rattle.pep440_rs.proofs.Agreement.ListRanges.{has_few_segments}
use Rattle.pep440_rs.specs.Bounds.{range_of, release_range_of}
use Rattle.pep440_rs.proofs.laws.ranges_stay_small.Goals as goal

pub returns-clause-apart : goal.returns-clause-apart
returns-clause-apart c = gives_ranges

pub returns-clause-few : goal.returns-clause-few
returns-clause-few c = gives_few

pub returns-clause-release_apart : goal.returns-clause-release_apart
returns-clause-release_apart c = gives_release_ranges

pub returns-clause-release_few : goal.returns-clause-release_few
returns-clause-release_few c = gives_few_by_release

pub returns-clause-whole : goal.returns-clause-whole
returns-clause-whole c = has_few_segments range_of gives_ranges gives_few

pub returns-clause-release : goal.returns-clause-release
returns-clause-release c = has_few_segments release_range_of gives_release_ranges gives_few_by_release
