use Rattle.std.proofs.Common.{◌≡◌, ◌∙◌, ◌&&◌, ◌++◌, ◌∷◌, ap, arith, get_or, length, refl, sym}
use Rattle.std.proofs.lemmas.List.Elements.{recursion_from_All}
use Rattle.std.specs.List.{flat_map}
use Rattle.std.specs.Prelude.{drop}
use Rattle.pep440_compiled.proofs.Listed.{first_member, no_zero_first, none_left}
use Rattle.pep440_compiled.proofs.list_members.contains_final.Goals as goal
use Rattle.pep440_compiled.specs.Lists.{IsParsedMember, member_bytes}
use Rattle.pep440_rs.specs.Matching.{list_matches}

pub loop-first-init : goal.loop-first-init
loop-first-init c l r d e = (l, recursion_from_All IsParsedMember l d.members, c.in_ok-left.ensures.found l d, refl)

pub returns-in-None-clause-found : goal.returns-in-None-clause-found
returns-in-None-clause-found c l r d e =
    let left = c.loop-first.invariant l r d e in
    let first = first_member c.loop-first.left.now left.0 (omega (arith, ap length c.in-Some.ensures.cases.0)) left.1 left.2 in
    let split : c.in-Some.first.now ∷ c.in-Some.member.now ≡ member_bytes first.member ++ flat_map member_bytes first.more = sym c.in-Some.ensures.cases.0 ∙ first.bytes in
    let key = c.in_ok-version.ensures r e.parsed (c.in_ok-strip_format.ensures.found r e) in
    let is = rw c.in-None.is at (c.in_ok-rest.ensures.found first.member r (flat_map member_bytes first.more) (ap (λ b. get_or b 0 0) split) first.parsed.version key (no_zero_first first.more) (ap (drop 1) split)) in
    sym (left.3 ∙ ap (λ m. list_matches m r) first.split ∙ ap (λ b. b && list_matches first.more r) is)

pub loop-first-preserved : goal.loop-first-preserved
loop-first-preserved c l r d e =
    let left = c.loop-first.invariant l r d e in
    let first = first_member c.loop-first.left.now left.0 (omega (arith, ap length c.in-Some.ensures.cases.0)) left.1 left.2 in
    let split : c.in-Some.first.now ∷ c.in-Some.member.now ≡ member_bytes first.member ++ flat_map member_bytes first.more = sym c.in-Some.ensures.cases.0 ∙ first.bytes in
    let key = c.in_ok-version.ensures r e.parsed (c.in_ok-strip_format.ensures.found r e) in
    let is = rw c.in-Some-2.is at (c.in_ok-rest.ensures.found first.member r (flat_map member_bytes first.more) (ap (λ b. get_or b 0 0) split) first.parsed.version key (no_zero_first first.more) (ap (drop 1) split)) in
    (first.more, first.all, is.1, left.3 ∙ ap (λ m. list_matches m r) first.split ∙ ap (λ b. b && list_matches first.more r) is.0)

pub returns-clause-found : goal.returns-clause-found
returns-clause-found c l r d e =
    let left = c.loop-first.invariant l r d e in
    sym (left.3 ∙ ap (λ m. list_matches m r) (none_left c.loop-first.left.now left.0 c.in_default.ensures.cases left.2))
