use Rattle.pep440_rs.proofs.range.list.Conversion.convert.Goals as goal

pub returns-in-WholeOrder-clause-range : goal.returns-in-WholeOrder-clause-range
returns-in-WholeOrder-clause-range c = rw c.in-WholeOrder.is c.specifier_to_range.ensures.range

pub returns-in-WholeOrder-clause-refused : goal.returns-in-WholeOrder-clause-refused
returns-in-WholeOrder-clause-refused c = rw c.in-WholeOrder.is c.specifier_to_range.ensures.refused

pub returns-in-WholeOrder-clause-at_max : goal.returns-in-WholeOrder-clause-at_max
returns-in-WholeOrder-clause-at_max c = rw c.in-WholeOrder.is c.specifier_to_range.ensures.at_max

pub returns-in-ReleaseOnly-clause-range : goal.returns-in-ReleaseOnly-clause-range
returns-in-ReleaseOnly-clause-range c = rw c.in-ReleaseOnly.is c.release_specifier_to_range.ensures.range

pub returns-in-ReleaseOnly-clause-refused : goal.returns-in-ReleaseOnly-clause-refused
returns-in-ReleaseOnly-clause-refused c = rw c.in-ReleaseOnly.is c.release_specifier_to_range.ensures.refused

pub returns-in-ReleaseOnly-clause-at_max : goal.returns-in-ReleaseOnly-clause-at_max
returns-in-ReleaseOnly-clause-at_max c = rw c.in-ReleaseOnly.is c.release_specifier_to_range.ensures.at_max
