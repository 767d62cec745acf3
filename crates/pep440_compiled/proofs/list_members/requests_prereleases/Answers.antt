use Rattle.std.proofs.Common.{◌≡◌, ◌∙◌, ◌||◌, ◌<◌, ap, length, refl, rules, sym}
use Rattle.std.proofs.lemmas.List.Elements.{recursion_from_All}
use Rattle.std.specs.Prelude.{Ok}
use Rattle.pep440_compiled.proofs.Listed.{first_member, no_zero_first, none_left}
use Rattle.pep440_compiled.proofs.list_members.requests_prereleases.Goals as goal
use Rattle.pep440_compiled.specs.Lists.{IsParsedMember}
use Rattle.pep440_rs.specs.Prereleases.{requests_prereleases}

pub loop-left-init : goal.loop-left-init
loop-left-init c l d = (l, recursion_from_All IsParsedMember l d.members, c.in-Some.ensures.found l d, refl)

pub returns-in_default-view_member-clause-found : goal.returns-in_default-view_member-clause-found
returns-in_default-view_member-clause-found c l d =
    let left = c.loop-left.invariant l d in
    let some : 0 < length c.loop-left.left.now = search rules in
    let first = first_member c.loop-left.left.now left.0 some left.1 left.2 in
    absurd (c.in_default-view_member.ensures.found first.member _ first.parsed (no_zero_first first.more) first.bytes)

pub returns-then-requests_prerelease-clause-found : goal.returns-then-requests_prerelease-clause-found
returns-then-requests_prerelease-clause-found c l d =
    let left = c.loop-left.invariant l d in
    let some : 0 < length c.loop-left.left.now = search rules in
    let first = first_member c.loop-left.left.now left.0 some left.1 left.2 in
    let found = c.in-Some-view_member.ensures.found first.member _ first.parsed (no_zero_first first.more) first.bytes in
    let is = c.requests_prerelease.ensures first.member found.0 found.1 in
    ap Ok (sym (left.3 ∙ ap requests_prereleases first.split ∙ ap (λ b. b || requests_prereleases first.more) (sym is ∙ c.if-requests_prerelease.true)))

pub loop-left-preserved : goal.loop-left-preserved
loop-left-preserved c l d =
    let left = c.loop-left.invariant l d in
    let some : 0 < length c.loop-left.left.now = search rules in
    let first = first_member c.loop-left.left.now left.0 some left.1 left.2 in
    let found = c.in-Some-view_member.ensures.found first.member _ first.parsed (no_zero_first first.more) first.bytes in
    let is = c.requests_prerelease.ensures first.member found.0 found.1 in
    (first.more, first.all, found.2, left.3 ∙ ap requests_prereleases first.split ∙ ap (λ b. b || requests_prereleases first.more) (sym is ∙ c.if-requests_prerelease.false))

pub returns-clause-found : goal.returns-clause-found
returns-clause-found c l d =
    let left = c.loop-left.invariant l d in
    let none : length c.loop-left.left.now ≡ 0 = search rules in
    ap Ok (sym (left.3 ∙ ap requests_prereleases (none_left c.loop-left.left.now left.0 none left.2)))
