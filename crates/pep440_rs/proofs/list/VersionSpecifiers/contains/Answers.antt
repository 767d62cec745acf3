use Rattle.std.proofs.Common.{◌≡◌, ◌∙◌, true, arith}
use Rattle.pep440_rs.specs.Matching.{matches}
use Rattle.pep440_rs.specs.Specifiers.{Spec}
use Rattle.pep440_rs.proofs.Arranging.InOrder.{all_step, told_of, told_open, told_step, un_not}
use Rattle.pep440_rs.proofs.list.VersionSpecifiers.contains.Goals as goal

pub loop-member-preserved : goal.loop-member-preserved
loop-member-preserved c =
    let items = c.as_slice-member-items.result.now in
    let at = c.loop-member.member-index in
    let member = c.member-item.result in
    let version = c.args.version.now in
    let inside = c.loop-member-test.true in
    let is = c.member-item.is in
    let yes : matches member.operator member.version version ≡ true = grind (arith, un_not, c.if-not-branch.false, c.in_ok-contains.ensures.value) in
    record {
      same = c.loop-member.invariant.same ∙ all_step (λ (m : Spec). matches m.operator m.version version) items at member inside is yes;
      told = λ told. told_step items at member version inside is yes (c.loop-member.invariant.told told);
    }

pub returns-in_err-contains-clause-in_order : goal.returns-in_err-contains-clause-in_order
returns-in_err-contains-clause-in_order c = λ before after is none out.
    let told = c.loop-member.invariant.told (told_of c.args.self.now before after c.args.version.now is none out) in
    cc (c.in_err-contains.ensures.answered (told_open c.as_slice-member-items.result.now c.loop-member.member-index c.member-item.result c.args.version.now c.loop-member-test.true c.member-item.is told))
