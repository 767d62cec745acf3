use Rattle.std.proofs.Common.{◌∙◌, subst, sym, true≢false}
use Rattle.pep440_compiled.proofs.Listed.{same_list}
use Rattle.pep440_compiled.proofs.list_members.read_members.Goals as goal
use Rattle.pep440_compiled.specs.Lists.{DenotesMembers}

pub returns-then-not-branch-clause-err : goal.returns-then-not-branch-clause-err
returns-then-not-branch-clause-err c is l d =
    let bytes = c.in-Some.ensures.found l d in
    let members = rw c.in-Some-2.is at (c.in_ok-members.ensures l d.members bytes) in
    let same = same_list c.in-Some-2.members.items l _ members d.order c.in_ok-list.ensures.value in
    let compiled = c.in_ok-is_compiled_form.ensures.1 (subst (DenotesMembers c.args.bytes.now) same d) in
    absurd (true≢false (sym compiled ∙ c.if-not-branch.true))
