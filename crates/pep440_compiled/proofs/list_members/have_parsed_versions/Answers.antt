use Rattle.std.proofs.Common.{◌≡◌, subst, true, take_all, List}
use Rattle.std.specs.List.{All}
use Rattle.pep440_compiled.proofs.Listed.{more_holds}
use Rattle.pep440_compiled.proofs.list_members.have_parsed_versions.Goals as goal
use Rattle.pep440_compiled.specs.Lists.{IsParsedMember}
use Rattle.pep440_version.specs.RoundTrip.{IsParsed}
use Rattle.pep440_rs.specs.Specifiers.{Spec}

pub loop-member-preserved : goal.loop-member-preserved
loop-member-preserved c =
    let holds : c.is_parsed.result ≡ true = cc in
    more_holds IsParsedMember c.args.members.now c.loop-member.member-index c.member-item.result c.member-item.is c.loop-member-test.true c.loop-member.invariant
    (record { valid = c.version.ensures.valid; version = subst IsParsed c.version.ensures.value (c.is_parsed.ensures.0 holds) })

pub returns-clause-members : goal.returns-clause-members
returns-clause-members c is = subst (λ (l : List Spec). All IsParsedMember l) (take_all c.loop-member.member-index c.args.members.now c.loop-member-test.false) c.loop-member.invariant
