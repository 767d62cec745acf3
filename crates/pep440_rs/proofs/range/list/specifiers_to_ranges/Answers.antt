use Rattle.pep440_rs.proofs.Intersecting.Count.{gives_ranges, gives_few}
use Rattle.pep440_rs.proofs.Agreement.ListRanges.{each_range, list_agrees, holds_in_each, has_few_segments}
use Rattle.pep440_rs.specs.Bounds.{range_of}
use Rattle.pep440_rs.proofs.range.list.specifiers_to_ranges.Goals as goal

pub returns-clause-agrees : goal.returns-clause-agrees
returns-clause-agrees c = λ all. each_range range_of c.args.specifiers _ c.into_members-members.ensures c.convert_members.result _ (λ range is. list_agrees c.args.specifiers range is all) c.convert_members.ensures.range

pub returns-clause-set : goal.returns-clause-set
returns-clause-set c = each_range range_of c.args.specifiers _ c.into_members-members.ensures c.convert_members.result _ (holds_in_each range_of c.args.specifiers) c.convert_members.ensures.range

pub returns-clause-count : goal.returns-clause-count
returns-clause-count c = each_range range_of c.args.specifiers _ c.into_members-members.ensures c.convert_members.result _ (has_few_segments range_of gives_ranges gives_few c.args.specifiers) c.convert_members.ensures.range
