use Rattle.std.proofs.Common.{◌≡◌, drop}
use Rattle.pep440_rs.specs.LiteralMatching.{list_matches_literally}
use Rattle.pep440_rs.proofs.list.VersionSpecifiers.matches_literally.Given as goal

abbrev pub invariant-loop-member : goal.invariant-loop-member
invariant-loop-member l = list_matches_literally l.self l.version ≡ list_matches_literally (drop l.member-index l.member-items) l.version
