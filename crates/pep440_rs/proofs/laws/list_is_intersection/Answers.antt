use Rattle.pep440_rs.proofs.Agreement.ListRanges.{holds_in_each, refused_by_a_member}
use Rattle.pep440_rs.specs.Bounds.{range_of, release_range_of}
use Rattle.pep440_rs.proofs.laws.list_is_intersection.Goals as goal

pub returns-clause-whole : goal.returns-clause-whole
returns-clause-whole c = holds_in_each range_of

pub returns-clause-release : goal.returns-clause-release
returns-clause-release c = holds_in_each release_range_of

pub returns-clause-refused : goal.returns-clause-refused
returns-clause-refused c = refused_by_a_member range_of

pub returns-clause-release_refused : goal.returns-clause-release_refused
returns-clause-release_refused c = refused_by_a_member release_range_of
