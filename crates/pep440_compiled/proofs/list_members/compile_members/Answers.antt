use Rattle.std.proofs.Common.{◌≡◌, ◌∙◌, ◌∷◌, List, ap, subst, take_all, true}
use Rattle.std.specs.List.{All, flat_map}
use Rattle.pep440_compiled.proofs.list_members.compile_members.Goals as goal
use Rattle.pep440_compiled.specs.Lists.{IsParsedMember, member_bytes}
use Rattle.pep440_rs.specs.Specifiers.{Spec}

pub returns-clause-ok : goal.returns-clause-ok
returns-clause-ok c =
    let holds : c.have_parsed_versions.result ≡ true = cc in
    record {
      members = subst (λ (l : List Spec). All IsParsedMember l) c.as_slice-members.ensures.value (c.have_parsed_versions.ensures.members holds);
      order = c.as_slice-members.ensures.valid;
      same = c.loop-member.invariant ∙ ap (λ (l : List Spec). 5 ∷ flat_map member_bytes l) (take_all c.loop-member.member-index c.as_slice-members.result.now c.loop-member-test.false ∙ c.as_slice-members.ensures.value);
    }
