use Rattle.std.proofs.Common.{◌∙◌, inl, inr, subst, sym, true≢false}
use Rattle.pep440_compiled.proofs.Listed.{never_members, one_denoted_members, set_is_form}
use Rattle.pep440_compiled.proofs.list.read_list.Goals as goal
use Rattle.pep440_compiled.specs.Lists.{DenotesList, DenotesWithSet, IsListForm}

pub returns-then-not-branch-clause-err : goal.returns-then-not-branch-clause-err
returns-then-not-branch-clause-err c is l denotes = go denotes
  where
    with_set : DenotesWithSet c.args.bytes.now l → ⊥
    with_set d =
        let members = c.in-Some.ensures.found l d in
        let same = one_denoted_members c.in-Some.members.now l c.in_ok-list.list members.1 c.in_ok-list.ensures.ok in
        true≢false (sym (c.in_ok-is_list_form.ensures.1 (subst (IsListForm c.args.bytes.now) same (set_is_form c.args.bytes.now l d))) ∙ c.if-not-branch.true)

    go : DenotesList c.args.bytes.now l → ⊥
    go (inl d) = never_members c.args.bytes.now _ l c.in-Some.ensures.exact d
    go (inr d) = with_set d
