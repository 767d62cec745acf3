use Rattle.std.proofs.Common.{◌≡◌, drop}
use Rattle.std.specs.Prelude.{IsTrue}
use Rattle.pep440_rs.specs.Matching.{list_matches}
use Rattle.pep440_rs.proofs.Arranging.InOrder.{is_told_before_exact}
use Rattle.pep440_rs.proofs.list.VersionSpecifiers.contains.Given as goal

abbrev pub invariant-loop-member : goal.invariant-loop-member
invariant-loop-member l = record {
  same : list_matches l.self l.version ≡ list_matches (drop l.member-index l.member-items) l.version;
  told : IsTrue (is_told_before_exact l.self l.version) → IsTrue (is_told_before_exact (drop l.member-index l.member-items) l.version);
}
