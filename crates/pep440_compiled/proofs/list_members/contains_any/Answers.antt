use Rattle.std.proofs.Common.{◌≡◌, ◌∙◌, ◌&&◌, ◌<◌, ap, length, refl, rules, subst, sym}
use Rattle.std.proofs.lemmas.List.Elements.{recursion_from_All}
use Rattle.std.specs.Prelude.{Ok}
use Rattle.pep440_compiled.proofs.Listed.{first_member, no_zero_first, none_left}
use Rattle.pep440_compiled.proofs.list_members.contains_any.Goals as goal
use Rattle.pep440_compiled.specs.Lists.{IsParsedMember}
use Rattle.pep440_rs.specs.Matching.{list_matches, matches}
use Rattle.pep440_rs.specs.Specifiers.{IsSpec}

pub loop-version-init : goal.loop-version-init
loop-version-init c l d = (l, recursion_from_All IsParsedMember l d.members, c.in-Some-view_members.ensures.found l d, λ v e. refl)

pub returns-in_default-view_member-clause-found : goal.returns-in_default-view_member-clause-found
returns-in_default-view_member-clause-found c l r d e =
    let left = c.loop-version.invariant l d in
    let some : 0 < length c.loop-version.left.now = search rules in
    let first = first_member c.loop-version.left.now left.0 some left.1 left.2 in
    absurd (c.in_default-view_member.ensures.found first.member _ first.parsed (no_zero_first first.more) first.bytes)

pub returns-in_default-view_member-clause-list : goal.returns-in_default-view_member-clause-list
returns-in_default-view_member-clause-list c e l d =
    let left = c.loop-version.invariant l d in
    let some : 0 < length c.loop-version.left.now = search rules in
    let first = first_member c.loop-version.left.now left.0 some left.1 left.2 in
    absurd (c.in_default-view_member.ensures.found first.member _ first.parsed (no_zero_first first.more) first.bytes)

pub returns-then-not-matches_bytes-clause-found : goal.returns-then-not-matches_bytes-clause-found
returns-then-not-matches_bytes-clause-found c l r d e =
    let left = c.loop-version.invariant l d in
    let some : 0 < length c.loop-version.left.now = search rules in
    let first = first_member c.loop-version.left.now left.0 some left.1 left.2 in
    let found = c.in-Some-view_member.ensures.found first.member _ first.parsed (no_zero_first first.more) first.bytes in
    let is = c.matches_bytes.ensures first.member.version r found.1 (c.in-Some.ensures.found r e) (subst (λ o. IsSpec (record { operator = o; version = first.member.version })) (sym found.0) first.parsed.valid) in
    let matched = left.3 r e ∙ ap (λ m. list_matches m r) first.split ∙ ap (λ b. b && list_matches first.more r) (ap (λ o. matches o first.member.version r) (sym found.0) ∙ sym is ∙ c.if-not-matches_bytes.true) in
    let early = (c.in-Some.ensures.found r e).is_prerelease in
    (λ i. Ok (sym matched i, early i))

pub returns-then-not-matches_bytes-clause-prerelease : goal.returns-then-not-matches_bytes-clause-prerelease
returns-then-not-matches_bytes-clause-prerelease c r e = (c.in-Some.ensures.found r e).is_prerelease

pub loop-version-preserved : goal.loop-version-preserved
loop-version-preserved c l d =
    let left = c.loop-version.invariant l d in
    let some : 0 < length c.loop-version.left.now = search rules in
    let first = first_member c.loop-version.left.now left.0 some left.1 left.2 in
    let found = c.in-Some-view_member.ensures.found first.member _ first.parsed (no_zero_first first.more) first.bytes in (
      first.more,
      first.all,
      found.2,
      λ r e.
          let is = c.matches_bytes.ensures first.member.version r found.1 (c.in-Some.ensures.found r e) (subst (λ o. IsSpec (record { operator = o; version = first.member.version })) (sym found.0) first.parsed.valid) in
          left.3 r e ∙ ap (λ m. list_matches m r) first.split ∙ ap (λ b. b && list_matches first.more r) (ap (λ o. matches o first.member.version r) (sym found.0) ∙ sym is ∙ c.if-not-matches_bytes.false),
    )

pub returns-clause-found : goal.returns-clause-found
returns-clause-found c l r d e =
    let left = c.loop-version.invariant l d in
    let none : length c.loop-version.left.now ≡ 0 = search rules in
    let matched = left.3 r e ∙ ap (λ m. list_matches m r) (none_left c.loop-version.left.now left.0 none left.2) in
    let early = (c.in-Some.ensures.found r e).is_prerelease in
    (λ i. Ok (sym matched i, early i))

pub returns-clause-prerelease : goal.returns-clause-prerelease
returns-clause-prerelease c r e = (c.in-Some.ensures.found r e).is_prerelease
