use Rattle.pep440_rs.proofs.Intersecting.Count.{gives_release_ranges, gives_few_by_release}
use Rattle.pep440_rs.proofs.Agreement.ListRanges.{each_range, release_list_agrees, holds_in_each, has_few_segments}
use Rattle.pep440_rs.specs.Bounds.{release_range_of}
use Rattle.pep440_rs.proofs.range.list.release_specifiers_to_ranges.Goals as goal

pub returns-clause-agrees : goal.returns-clause-agrees
returns-clause-agrees c = each_range release_range_of c.args.specifiers _ c.into_members-members.ensures c.convert_members.result _ (release_list_agrees c.args.specifiers) c.convert_members.ensures.range

pub returns-clause-set : goal.returns-clause-set
returns-clause-set c = each_range release_range_of c.args.specifiers _ c.into_members-members.ensures c.convert_members.result _ (holds_in_each release_range_of c.args.specifiers) c.convert_members.ensures.range

pub returns-clause-count : goal.returns-clause-count
returns-clause-count c = each_range release_range_of c.args.specifiers _ c.into_members-members.ensures c.convert_members.result _ (has_few_segments release_range_of gives_release_ranges gives_few_by_release c.args.specifiers) c.convert_members.ensures.range
