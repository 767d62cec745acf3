use Rattle.std.proofs.Common.{◌≡◌, ◌∙◌, true, arith}
use Rattle.pep440_rs.specs.LiteralMatching.{matches_literally}
use Rattle.pep440_rs.specs.Specifiers.{Spec}
use Rattle.pep440_rs.proofs.Arranging.InOrder.{all_step, un_not}
use Rattle.pep440_rs.proofs.list.VersionSpecifiers.matches_literally.Goals as goal

pub loop-member-preserved : goal.loop-member-preserved
loop-member-preserved c =
    let member = c.member-item.result in
    let version = c.args.version.now in
    let yes : matches_literally member.operator member.version version ≡ true = grind (arith, un_not, c.if-not-branch.false, c.in_ok-matches_literally.ensures.value) in
    c.loop-member.invariant ∙ all_step (λ (m : Spec). matches_literally m.operator m.version version) c.as_slice-member-items.result.now c.loop-member.member-index member c.loop-member-test.true c.member-item.is yes
