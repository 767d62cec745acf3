use Rattle.std.proofs.Common.{◌≡◌, drop}
use Rattle.pep440_rs.specs.LiteralMatching.{list_matches_literally}
use Rattle.pep440_sets.proofs.common_version.each_matches.Given as goal

abbrev pub invariant-loop-member : goal.invariant-loop-member
invariant-loop-member l = list_matches_literally l.members l.version ≡ list_matches_literally (drop l.member-index l.members) l.version
