use Rattle.std.proofs.Common.{length}
use Rattle.pep440_ranges.proofs.segment_search.+lies_within.Given as goal

abbrev pub decreases-lies_within : goal.decreases-lies_within
decreases-lies_within g l = length l.segments.now
