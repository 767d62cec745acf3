use Rattle.std.proofs.Common.{inr, refl}
use Rattle.pep440_calls.proofs.Allowed.{marked_in_set}
use Rattle.pep440_calls.proofs.Forms.{as_set_list, no_compiled}
use Rattle.pep440_calls.proofs.batch.any_compiled_mark.Goals as goal
use Rattle.pep440_sets.specs.Sets.{list_set}

pub returns-in-Ok : goal.returns-in-Ok
returns-in-Ok c list means =
    let found = c.in-Ok.ensures.ok in
    marked_in_set c.args.form.now c.args.version.now list found.0 c.in-Ok.held c.in-Ok.is_prerelease c.version_mark.result c.requires.form means found.1 found.2 found.3 c.version_mark.ensures

pub returns-in-Err-NoVersion : goal.returns-in-Err-NoVersion
returns-in-Err-NoVersion c list means =
    let none = rw c.in-Err-NoVersion.is at c.read_membership.ensures.version in
    inr (no_compiled c.args.version.now c.requires.version (none c.in-Err-NoVersion.field-0-is), refl)

pub returns-in-Err-NoList : goal.returns-in-Err-NoList
returns-in-Err-NoList c list means =
    let none = rw c.in-Err-NoList.is at c.read_membership.ensures.list in
    absurd (none c.in-Err-NoList.field-0-is (list_set list) (inr (list, as_set_list c.args.form.now list c.requires.form means, refl)))
